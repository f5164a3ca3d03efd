-- Ranges of numbers, and the sides of 0.
use Rattle.std.specs.Prelude.{Bool, true, false, not, ℤ, pos, neg_ℤ, ◌^◌, ◌≤ℤ◌, ◌<ℤ◌}
use Rattle.fz_dom.specs.Changes.{IsFromTo}
use Rattle.fz_spec.specs.declared.shape.Operation.{Operation}
use Rattle.fz_spec.specs.declared.shape.Operation.TheVariants.{Times, Quotient, Remainder}
use Rattle.fz_ranges.specs.declared.ranges.Range.{Range}
use Rattle.fz_ranges.specs.declared.ranges.Ranges.{Ranges}

abbrev pub IsIn : Range → ℤ → Type 0
IsIn r u = IsFromTo r.low r.high u

-- three numbers are
abbrev pub AreIn : Ranges → ℤ → ℤ → ℤ → Type 0
AreIn s u w v = IsIn s.first u × IsIn s.second w × IsIn s.value v

abbrev pub IsEmpty : Range → Type 0
IsEmpty r = r.high <ℤ r.low

-- its numbers are small
abbrev pub IsNear : Range → Type 0
IsNear r = (neg_ℤ (pos (2 ^ 31)) ≤ℤ r.low) × (r.high ≤ℤ pos (2 ^ 31))

abbrev pub AreNear : Ranges → Type 0
AreNear s = IsNear s.first × IsNear s.second × IsNear s.value

-- a number is below 0, or it isn't
abbrev pub IsOnSide : Bool → ℤ → Type 0
IsOnSide true u = u <ℤ pos 0
IsOnSide false u = pos 0 ≤ℤ u

-- it isn't above 0, or not below
abbrev pub IsTurned : Bool → ℤ → Type 0
IsTurned true u = u ≤ℤ pos 0
IsTurned false u = pos 0 ≤ℤ u

-- whether what an operation makes of two numbers isn't above 0, by whether they are negative: a rest has the sign of what is divided
abbrev pub turned : Operation → Bool → Bool → Bool
turned Remainder first second = first
turned operation true second = not second
turned operation false second = second

-- operations on sizes and signs
abbrev pub IsScaling : Operation → Type 0
IsScaling Times = Unit {0}
IsScaling Quotient = Unit {0}
IsScaling Remainder = Unit {0}
IsScaling operation = ⊥
