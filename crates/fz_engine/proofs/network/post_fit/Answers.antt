use Rattle.fz_says.specs.Said.{said_by}
use Rattle.fz_engine.proofs.Posting.{limits_of, waits_below}
use Rattle.fz_engine.proofs.network.post_fit.Goals as goal

pub post-requires-clause-fits : goal.post-requires-clause-fits
post-requires-clause-fits c = limits_of c.args.variables.now (said_by c.args.saying.now) c.requires.fit

pub post-requires-clause-sum : goal.post-requires-clause-sum
post-requires-clause-sum c = c.requires.fit.sum

pub post-requires-clause-inside : goal.post-requires-clause-inside
post-requires-clause-inside c = rw c.requires.size (waits_below c.args.variables.now (said_by c.args.saying.now) c.requires.fit)
