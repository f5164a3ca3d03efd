use Rattle.fz_agenda.proofs.Chunks.{listed_more}
use Rattle.fz_agenda.proofs.members.Members.join.Goals as goal

pub returns-clause-joined : goal.returns-clause-joined
returns-clause-joined c = λ t. rw (← c.self.view_is) (listed_more c.self.inside.chunk c.with-self-inside.result c.args.place c.with-self-inside.ensures.numbers)
