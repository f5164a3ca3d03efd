use Rattle.fz_machine.proofs.machine.Machine.next_event.Goals as goal

pub returns : goal.returns
returns g c = record { news = c.has_news-news.result; told = c.has_news-news.ensures; is = c.event_of.ensures }
