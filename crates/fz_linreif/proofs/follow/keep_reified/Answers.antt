use Rattle.std.proofs.lemmas.Result.{IfOk-weaker}
use Rattle.std.proofs.Math.Facts.{to_z-of_z}
use Rattle.fz_strength.specs.Events.{AllFixed, IsFixedIn}
use Rattle.fz_prop.specs.declared.answer.Answer.{Answer}
use Rattle.fz_linreif.proofs.follow.keep_reified.Goals as goal

pub returns-in-AtMost-Some-clause-correct : goal.returns-in-AtMost-Some-clause-correct
returns-in-AtMost-Some-clause-correct c = rw (c.in-AtMost-Some.is-0) (rw (to_z-of_z c.ranges.number) at c.keep_order.ensures.correct)

pub returns-in_default-clause-correct : goal.returns-in_default-clause-correct
returns-in_default-clause-correct c = rw (to_z-of_z c.ranges.number) at c.decide.ensures.correct
