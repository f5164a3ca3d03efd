-- Terms with factors, and in how many bits their sum may be added up.
use Rattle.std.specs.Prelude.{◌≡◌, ◌+◌, ◌^◌, ◌≤◌, ℤ, List, length, sum_by, unsigned_abs}
use Rattle.fz_spec.specs.declared.limits.TheConstants.{ELEMENT_LIMIT}
use Rattle.fz_linear.specs.declared.narrow.Precision.{Precision}
use Rattle.fz_linear.specs.declared.narrow.Weighted.{Weighted}
use Rattle.fz_linear.specs.declared.narrow.Precision.TheVariants.{Narrow, Wide}

-- Their sizes add up to so little that with numbers of 32 bits each partial sum is within 2 ^ 62.
abbrev pub AreLight : List ℤ → Type 0
AreLight ks = sum_by unsigned_abs ks ≤ 2 ^ 31

-- 64 bits are enough for light factors alone, 128 for all
abbrev pub Allows : Precision → List ℤ → Type 0
Allows Narrow ks = AreLight ks
Allows Wide ks = Unit {0}

-- There is a factor for each term, there are not too many, and the factors allow the bits.
pub record IsWeighted (sum : Weighted) : Type 0 where
  pub same : length sum.factors.now ≡ length sum.terms.now
  pub few : length sum.terms.now ≤ ELEMENT_LIMIT + 1
  pub allowed : Allows sum.precision sum.factors.now
