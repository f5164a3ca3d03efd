-- How large numbers are, and what divides and what is left, signs aside.
use Rattle.std.specs.Prelude.{◌≡◌, ℕ, ◌+◌, ◌*◌, ◌≤◌, ◌<◌}
use Rattle.fz_spec.specs.declared.shape.Operation.{Operation}
use Rattle.fz_spec.specs.declared.shape.Operation.TheVariants.{Times, Quotient, Remainder}
use Rattle.fz_ranges.specs.declared.sizes.Sizes.{Sizes}
use Rattle.fz_ranges.specs.declared.sizes.Triple.{Triple}

-- a size lies from the least to the greatest
abbrev pub IsSized : Sizes → ℕ → Type 0
IsSized s n = (s.low ≤ n) × (n ≤ s.high)

-- three sizes do
abbrev pub AreSized : Triple → ℕ → ℕ → ℕ → Type 0
AreSized t m n k = IsSized t.first m × IsSized t.second n × IsSized t.value k

-- both ends are small
abbrev pub AreAtMost : ℕ → Sizes → Type 0
AreAtMost most s = (s.low ≤ most) × (s.high ≤ most)

-- m is n taken k times, and a rest below n
pub record IsParted (m n k rest : ℕ) : Type 0 where
  pub sum : m ≡ k * n + rest
  pub below : rest < n

-- k is the size of what an operation makes of numbers of the sizes m and n, as far as a product, a quotient or a rest tells
abbrev pub IsSizedBy : Operation → ℕ → ℕ → ℕ → Type 0
IsSizedBy Times m n k = k ≡ m * n
IsSizedBy Quotient m n k = (rest : ℕ) × IsParted m n k rest
IsSizedBy Remainder m n k = (times : ℕ) × IsParted m n times k
IsSizedBy operation m n k = Unit {0}
