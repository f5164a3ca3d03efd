use Rattle.fz_prop.proofs.Twice.{shrinks_twice}
use Rattle.fz_alldiff.proofs.far.keep_each.Goals as goal

pub returns-in-Some-clause-shrinks : goal.returns-in-Some-clause-shrinks
returns-in-Some-clause-shrinks c = shrinks_twice c.args.store.now c.settle.new.store c.keep_rest.new.store c.settle.ensures.shrinks c.keep_rest.ensures.shrinks
