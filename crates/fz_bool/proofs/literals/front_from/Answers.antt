use Rattle.std.proofs.Common.{arith, inl, inr}
use Rattle.std.proofs.lemmas.Bool.{cases_lt}
use Rattle.fz_bool.proofs.literals.front_from.Goals as goal

pub returns : goal.returns
returns c = λ j l below at. elim (cases_lt j c.args.front) [
  | inl less ↦ c.requires.told j l less at
  | inr more ↦ c.loop-place.invariant j l (omega (arith, below, more, c.max.ensures, c.loop-place-test.false)) at
]
