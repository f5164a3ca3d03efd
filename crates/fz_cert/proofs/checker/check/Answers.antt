use Rattle.fz_refutes.proofs.Soundness.{proving_shows}
use Rattle.fz_cert.proofs.Unread.{no_head, by_head}
use Rattle.fz_cert.proofs.checker.check.Goals as goal

pub returns-then-not-may_head-clause-proves : goal.returns-then-not-may_head-clause-proves
returns-then-not-may_head-clause-proves c = no_head c.args.model.now c.args.output.now c.in_ok-head.head c.may_head.result c.in_ok-head.ensures c.may_head.ensures c.if-not-may_head.true

pub returns-clause-proves : goal.returns-clause-proves
returns-clause-proves c = by_head c.args.model.now c.args.output.now c.in_ok-head.head c.in_ok-proved.proved c.in_ok-head.ensures c.in_ok-proved.ensures

pub returns-clause-shows : goal.returns-clause-shows
returns-clause-shows c = λ yes. proving_shows c.args.model.now c.args.output.now c.goal.ensures.kept (c.in_ok-head.head, c.in_ok-proved.ensures.0 yes)
