use Rattle.std.proofs.Common.{◌∙◌, sym, subst, List}
use Rattle.std.specs.Prelude.{ℤ}
use Rattle.fz_tree.specs.Choice.{IsChoice}
use Rattle.fz_region.specs.Each.{each_of}
use Rattle.fz_region.proofs.Each.{each_is_choice}
use Rattle.fz_region.proofs.choice.Choice.each.Goals as goal

pub invariant_of-result : goal.invariant_of-result
invariant_of-result c =
    subst (λ (d : List (ℤ × ℤ)). IsChoice (each_of c.args.variable d)) (sym (c.in_ok-values.ensures.ok ∙ c.in_ok-copy.ensures.same))
    (each_is_choice c.args.variable c.args.values.now c.in_ok-copy.ensures.domain.0 c.requires)
