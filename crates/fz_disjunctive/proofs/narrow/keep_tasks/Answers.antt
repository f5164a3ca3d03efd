use Rattle.fz_prop.proofs.Twice.{shrinks_twice}
use Rattle.fz_disjunctive.proofs.narrow.keep_tasks.Goals as goal

pub returns-in_err-keep_both-in-Fix-clause-shrinks : goal.returns-in_err-keep_both-in-Fix-clause-shrinks
returns-in_err-keep_both-in-Fix-clause-shrinks c = shrinks_twice c.args.store.now c.keep_shared.new.store c.keep_both.new.store c.keep_shared.ensures.shrinks c.keep_both.ensures.shrinks

pub returns-in-Changed-clause-shrinks : goal.returns-in-Changed-clause-shrinks
returns-in-Changed-clause-shrinks c = shrinks_twice c.args.store.now c.keep_shared.new.store c.keep_both.new.store c.keep_shared.ensures.shrinks c.keep_both.ensures.shrinks

pub returns-in-Wiped-clause-shrinks : goal.returns-in-Wiped-clause-shrinks
returns-in-Wiped-clause-shrinks c = shrinks_twice c.args.store.now c.keep_shared.new.store c.keep_both.new.store c.keep_shared.ensures.shrinks c.keep_both.ensures.shrinks
