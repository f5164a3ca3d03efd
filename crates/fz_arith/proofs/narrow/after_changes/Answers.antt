use Rattle.std.proofs.Common.{inr}
use Rattle.std.specs.Prelude.{ℤ, List}
use Rattle.fz_strength.specs.Operations.{equation}
use Rattle.fz_arith.proofs.Steps.{rested_line}
use Rattle.fz_arith.proofs.narrow.after_changes.Goals as goal

pub returns : goal.returns
returns c = inr (λ (before : List (List (ℤ × ℤ))). rw c.rested.ensures
    (rested_line c.are_all_fixed.result (equation c.args.operation c.args.operands.now c.args.value) before c.args.store.now (c.requires.value, c.requires.operands)
    (c.rests_as_product.ensures c.if-not-rests_as_product.false) c.are_all_fixed.ensures))
