use Rattle.fz_agenda.proofs.Waking.{added_last}
use Rattle.fz_agenda.proofs.wakes.Waiters.add.Goals as goal

pub returns-then-join_last-clause-ok : goal.returns-then-join_last-clause-ok
returns-then-join_last-clause-ok c = rw (← c.self.view_is) (c.join_last.ensures.joined c.if-join_last.true)

pub returns-clause-ok : goal.returns-clause-ok
returns-clause-ok c =
    rw (← c.self.view_is) (added_last c.args.place c.one.result c.self.inside.words.items c.join_last.new.words.items c.push.new.self.items (c.join_last.ensures.other c.if-join_last.false) c.in_ok-push.ensures.items c.one.ensures)
