-- The numbers of three variables that lie on a plane with what is left of the others.
use Rattle.std.specs.Prelude.{◌≡◌, ◌≢◌, ◌↔◌, ◌<◌, ◌+ℤ◌, pos, ℕ, ℤ, List}
use Rattle.fz_sets.specs.Sets.{IsInSet}
use Rattle.fz_bits.specs.Words.{HasBit}
use Rattle.fz_dom.specs.Changes.{IsKeeping}
use Rattle.fz_strength.specs.Domains.{dom_at}
use Rattle.fz_shift.specs.declared.plane.Plane.{Plane}
use Rattle.fz_shift.specs.Planes.{number_on}

-- a number that numbers of two properties make
abbrev pub IsMade : Plane → (ℤ → Type 0) → (ℤ → Type 0) → ℤ → Type 0
IsMade p D E v = (u : ℤ) × (w : ℤ) × D u × E w × (v ≡ number_on p u w)

-- a number that is one of a word's, or none of the 64 from its base on
abbrev pub IsSpared : ℤ → ℕ → ℤ → Type 0
IsSpared base word x = (i : ℕ) → i < 64 → x ≡ base +ℤ pos i → HasBit word i

-- numbers that are left of the three variables and lie on it
pub record IsPoint (p : Plane) (ds : List (List (ℤ × ℤ))) (u w v : ℤ) : Type 0 where
  pub across : IsInSet (dom_at ds p.across) u
  pub first : IsInSet (dom_at ds p.first) w
  pub second : IsInSet (dom_at ds p.second) v
  pub on : v ≡ number_on p u w

-- what is left of each of the three later is what was left of it at such points
pub record AreOfPoints (p : Plane) (ds es : List (List (ℤ × ℤ))) : Type 0 where
  pub across : (u : ℤ) → IsInSet (dom_at es p.across) u ↔ ((w : ℤ) × (v : ℤ) × IsPoint p ds u w v)
  pub first : (w : ℤ) → IsInSet (dom_at es p.first) w ↔ ((u : ℤ) × (v : ℤ) × IsPoint p ds u w v)
  pub second : (v : ℤ) → IsInSet (dom_at es p.second) v ↔ ((u : ℤ) × (w : ℤ) × IsPoint p ds u w v)

-- exactly the numbers of a variable with a property stay, and all of the others
pub record KeepsAt (v : ℕ) (P : ℤ → Type 0) (ds es : List (List (ℤ × ℤ))) : Type 0 where
  pub kept : IsKeeping P (dom_at ds v) (dom_at es v)
  pub others : (u : ℕ) → u ≢ v → dom_at es u ≡ dom_at ds u

-- two of the three keep exactly the numbers with these properties, and the second variable all
pub record KeepsTwo (p : Plane) (P Q : ℤ → Type 0) (ds es : List (List (ℤ × ℤ))) : Type 0 where
  pub across : IsKeeping P (dom_at ds p.across) (dom_at es p.across)
  pub first : IsKeeping Q (dom_at ds p.first) (dom_at es p.first)
  pub second : dom_at es p.second ≡ dom_at ds p.second
