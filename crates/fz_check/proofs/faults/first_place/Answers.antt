use Rattle.std.proofs.Common.{◌∙◌, sym}
use Rattle.fz_check.proofs.FaultLaws.{first_front, behind_none}
use Rattle.fz_check.proofs.faults.first_place.Goals as goal

pub returns-in-Some : goal.returns-in-Some
returns-in-Some c = λ xs ys e k. sym (first_front xs ys c.in-Some.at (sym e ∙ c.in-Some.is))

pub returns-in-None : goal.returns-in-None
returns-in-None c = λ xs ys e k. k ∙ sym (behind_none xs ys (sym e ∙ c.in-None.is))
