-- The law of the sets that are written.
use Rattle.std.specs.Prelude.{ℤ, List, map}
use Rattle.fz_sets.specs.Sets.{AreRanges, AreOneSet}
use Rattle.fz_language.specs.Numerals.{ranges_of}

-- each number as a range of its own
abbrev pub points_of : List ℤ → List (ℤ × ℤ)
points_of xs = map (λ (x : ℤ). (x, x)) xs

-- the ranges of numbers rise, and hold those numbers and no other
abbrev pub RangesAreOfNumbers : Type 0
RangesAreOfNumbers = (xs : List ℤ) → AreRanges (ranges_of xs) × AreOneSet (ranges_of xs) (points_of xs)
