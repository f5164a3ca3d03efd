use Rattle.std.proofs.Common.{◌∙◌, ap₂}
use Rattle.std.specs.Prelude.{ℤ, pos, ◌+ℤ◌}
use Rattle.std.specs.Int.{int_div_euclid}
use Rattle.fz_branch.proofs.Numbers.{middle_code}
use Rattle.fz_split.proofs.division.middle.Goals as goal

pub returns : goal.returns
returns c =
    middle_code c.min.result c.max.result c.from.result c.from-2.result c.div_euclid.result c.min.ensures.limits c.max.ensures.limits c.from.ensures c.from-2.ensures c.div_euclid.ensures
    ∙ ap₂ (λ (a : ℤ) (b : ℤ). int_div_euclid (a +ℤ b) (pos 2)) c.min.ensures.first c.max.ensures.last
