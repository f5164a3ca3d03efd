-- Changes of a list of ranges.
use Rattle.std.specs.Prelude.{ℤ, pos, ◌+ℤ◌, ◌-ℤ◌, List, [], ◌∷◌, ◌++◌, if◌then◌else◌, int_lt, ◌↔◌}
use Rattle.fz_sets.specs.Sets.{AreRanges, AreWithinLimits, IsInSet}
use Rattle.std.specs.Int.{int_max, int_min}

-- what is left of a range below l, and above u
abbrev pub below : ℤ → ℤ × ℤ → List (ℤ × ℤ)
below l r = if int_lt r.0 l then (r.0, int_min r.1 (l -ℤ pos 1)) ∷ [] else []

abbrev pub above : ℤ → ℤ × ℤ → List (ℤ × ℤ)
above u r = if int_lt u r.1 then (int_max r.0 (u +ℤ pos 1), r.1) ∷ [] else []

-- the ranges without the numbers from l to u
abbrev pub cut_ranges : ℤ → ℤ → List (ℤ × ℤ) → List (ℤ × ℤ)
cut_ranges l u [] = []
cut_ranges l u (r ∷ rs) = below l r ++ (above u r ++ cut_ranges l u rs)

-- es are rising ranges within the limits, of exactly the members of rs with a property
pub record IsPart (P : ℤ → Type 0) (rs es : List (ℤ × ℤ)) : Type 0 where
  pub ranges : AreRanges es
  pub within : AreWithinLimits es
  pub members : (x : ℤ) → IsInSet es x ↔ (IsInSet rs x × P x)
