use Rattle.std.proofs.Common.{arith, inl, inr}
use Rattle.std.specs.Prelude.{pos}
use Rattle.std.proofs.lemmas.Bool.{cases_lt}
use Rattle.fz_spec.specs.declared.term.Term.TheVariants.{Num}
use Rattle.fz_prop.specs.Told.{IsBeaten}
use Rattle.fz_arith.proofs.Beaten.{one_before}
use Rattle.fz_arith.proofs.extremes.front_from.Goals as goal

pub loop-place-preserved : goal.loop-place-preserved
loop-place-preserved c =
    one_before (IsBeaten c.args.operation c.args.store.now.doms c.args.value) c.args.operands.now c.loop-place.place (Num (pos 0)) (omega (arith, c.loop-place-test.true, c.count_of-count.ensures))
    (c.is_beaten.ensures c.if-not-is_beaten.false) c.loop-place.invariant

pub returns : goal.returns
returns c = λ j l below at. elim (cases_lt j c.args.front) [
  | inl less ↦ c.requires.told j l less at
  | inr more ↦ c.loop-place.invariant j l (omega (arith, below, more, c.max.ensures, c.loop-place-test.false)) at
]
