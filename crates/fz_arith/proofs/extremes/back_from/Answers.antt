use Rattle.std.proofs.Common.{◌+◌, ◌-◌, length, arith, inl, inr}
use Rattle.std.specs.Prelude.{pos}
use Rattle.std.proofs.lemmas.Bool.{cases_lt}
use Rattle.fz_spec.specs.declared.term.Term.TheVariants.{Num}
use Rattle.fz_prop.specs.Told.{IsBeaten}
use Rattle.fz_arith.proofs.Beaten.{one_behind}
use Rattle.fz_arith.proofs.extremes.back_from.Goals as goal

pub loop-passed-preserved : goal.loop-passed-preserved
loop-passed-preserved c =
    one_behind (IsBeaten c.args.operation c.args.store.now.doms c.args.value) c.args.operands.now c.loop-passed.passed (length c.args.operands.now - 1 - c.loop-passed.passed) (Num (pos 0))
    (omega (arith, c.loop-passed-test.true, c.count_of-count.ensures))
    (c.is_beaten.ensures c.if-not-is_beaten.false) c.loop-passed.invariant

pub returns : goal.returns
returns c = λ j l behind at. elim (cases_lt (j + c.args.back) (length c.args.operands.now)) [
  | inl less ↦ c.loop-passed.invariant j l (omega (arith, behind, less, c.max.ensures, c.loop-passed-test.false)) at
  | inr more ↦ c.requires.told j l more at
]
