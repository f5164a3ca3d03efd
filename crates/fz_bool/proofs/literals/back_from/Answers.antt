use Rattle.std.proofs.Common.{◌+◌, length, arith, inl, inr}
use Rattle.std.proofs.lemmas.Bool.{cases_lt}
use Rattle.fz_bool.proofs.literals.back_from.Goals as goal

pub returns : goal.returns
returns c = λ j l behind at. elim (cases_lt (j + c.args.back) (length c.args.literals.now)) [
  | inl less ↦ c.loop-passed.invariant j l (omega (arith, behind, less, c.max.ensures, c.loop-passed-test.false)) at
  | inr more ↦ c.requires.told j l more at
]
