-- The part of a domain that is copied as it is: its ends, its size, and a word where it has holes and is narrow.
use Rattle.std.specs.Prelude.{◌≡◌, ℕ, pos, ℤ, ◌+ℤ◌, ◌≤ℤ◌, ◌<◌, ◌^◌, List, [], ◌∷◌, nat_eq, if◌then◌else◌}
use Rattle.fz_sets.specs.Sets.{AreRanges, AreWithinLimits, set_size, LEAST, GREATEST}
use Rattle.fz_dom.specs.Shape.{least, greatest}
use Rattle.fz_dom.specs.Places.{bit_ranges}
use Rattle.fz_dom.specs.declared.head.Head.{Head}

-- one range, or none
abbrev pub plain : ℤ → ℤ → ℕ → List (ℤ × ℤ)
plain low high size = if nat_eq size 0 then [] else (low, high) ∷ []

-- the ranges of a domain of which nothing but this is kept: its one range, or those of its word where that isn't 0
abbrev pub head_ranges : ℤ → ℤ → ℤ → ℕ → ℕ → List (ℤ × ℤ)
head_ranges low high base size bits = if nat_eq bits 0 then plain low high size else bit_ranges base bits

abbrev pub head_set : Head → List (ℤ × ℤ)
head_set h = head_ranges h.low h.high h.base h.size h.bits

-- the ends and the size are those of the ranges, and all places of the word lie within the limits
pub record IsHeadOf (h : Head) (rs : List (ℤ × ℤ)) : Type 0 where
  pub are_ranges : AreRanges rs
  pub within : AreWithinLimits rs
  pub low_is : h.low ≡ least rs
  pub high_is : h.high ≡ greatest rs
  pub size_is : h.size ≡ set_size rs
  pub floor : LEAST ≤ℤ h.base
  pub ceiling : (h.base +ℤ pos 63) ≤ℤ GREATEST
  pub fits : h.bits < 2 ^ 64

-- nothing but this is kept
abbrev pub IsWhole : Head → Type 0
IsWhole h = IsHeadOf h (head_set h)
