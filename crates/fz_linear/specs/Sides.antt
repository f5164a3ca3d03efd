-- The two sides from which a number bounds a sum: from below it bounds the negated sum from above.
use Rattle.std.specs.Prelude.{ℤ, neg_ℤ, List}
use Rattle.fz_linear.specs.declared.side.Side.{Side}
use Rattle.fz_linear.specs.declared.side.Side.TheVariants.{Above, Below}
use Rattle.fz_strength.specs.Sums.{negated}

abbrev pub seen_from : Side → ℤ → ℤ
seen_from Above k = k
seen_from Below k = neg_ℤ k

abbrev pub all_seen_from : Side → List ℤ → List ℤ
all_seen_from Above ks = ks
all_seen_from Below ks = negated ks
