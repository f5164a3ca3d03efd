-- Where all numbers between two ends are different from a number that isn't below them.
use Rattle.std.proofs.Common.{refl, arith}
use Rattle.std.specs.Prelude.{ℤ, ◌≤ℤ◌, ◌<ℤ◌}
use Rattle.std.proofs.lemmas.Int.{ints, by_lt_z}
use Rattle.fz_spec.specs.declared.shape.Relation.TheVariants.{NotEqual}
use Rattle.fz_strength.specs.ReifiedSums.{AllRelate}

pub all_below : (low high c : ℤ) → high <ℤ c → AllRelate NotEqual low high c
all_below low high c above = λ s from to same. omega (arith, ints, above, to, same)

pub below_all : (low high c : ℤ) → low ≤ℤ c → AllRelate NotEqual low high c → high <ℤ c
below_all low high c reached all = by_lt_z high c (λ below. below) (λ short. absurd (all c reached short refl))
