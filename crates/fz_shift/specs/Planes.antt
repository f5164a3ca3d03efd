-- Three variables, of which the second less the first is a multiple of the one across, less a number.
use Rattle.std.specs.Prelude.{◌≡◌, ◌≢◌, ◌↔◌, ◌<◌, ℕ, ℤ, pos, negsuc, neg_ℤ, ◌+ℤ◌, ◌-ℤ◌, ◌*ℤ◌, ◌≤ℤ◌, ◌<ℤ◌, List, length}
use Rattle.std.specs.List.{AllByRecursion}
use Rattle.fz_sets.specs.Sets.{IsInSet}
use Rattle.fz_dom.specs.Shape.{least, greatest}
use Rattle.fz_spec.specs.declared.term.Term.{Term}
use Rattle.fz_spec.specs.Constraints.{term_values}
use Rattle.fz_spec.specs.Truth.{weighted_sum}
use Rattle.fz_spec.specs.declared.shape.Relation.TheVariants.{Equal}
use Rattle.fz_strength.specs.Domains.{number_at, dom_at, AreDomains, IsTermOf}
use Rattle.fz_strength.specs.Sums.{RestsSum}
use Rattle.fz_shift.specs.declared.plane.Plane.{Plane}

-- the number of the second variable that lies on it with one across and one of the first
abbrev pub number_on : Plane → ℤ → ℤ → ℤ
number_on p u w = (w +ℤ (p.factor *ℤ u)) -ℤ p.number

-- the numbers of an assignment lie on it
abbrev pub PlaneTruth : Plane → List ℤ → Type 0
PlaneTruth p a = number_at a p.second ≡ number_on p (number_at a p.across) (number_at a p.first)

-- numbers across and of the first variable, with one of the second that is among these
abbrev pub IsOnPlane : Plane → List (ℤ × ℤ) → ℤ → ℤ → Type 0
IsOnPlane p second u w = IsInSet second (number_on p u w)

-- its factor is small, and its number has a negative
pub record IsSmall (p : Plane) : Type 0 where
  pub least : neg_ℤ (pos 255) ≤ℤ p.factor
  pub most : p.factor ≤ℤ pos 255
  pub number : negsuc 2147483646 ≤ℤ p.number

-- its variables are among that many
pub record AreInside (size : ℕ) (p : Plane) : Type 0 where
  pub across : p.across < size
  pub first : p.first < size
  pub second : p.second < size

-- its variables are three
pub record AreApart (p : Plane) : Type 0 where
  pub first : p.across ≢ p.first
  pub second : p.across ≢ p.second
  pub others : p.first ≢ p.second

-- each number that is left of one of the three lies on it with some that are left of the other two
pub record HasPartners (p : Plane) (ds : List (List (ℤ × ℤ))) : Type 0 where
  pub across : (u : ℤ) → IsInSet (dom_at ds p.across) u → (w : ℤ) × IsInSet (dom_at ds p.first) w × IsOnPlane p (dom_at ds p.second) u w
  pub first : (w : ℤ) → IsInSet (dom_at ds p.first) w → (u : ℤ) × IsInSet (dom_at ds p.across) u × IsOnPlane p (dom_at ds p.second) u w
  pub second : (v : ℤ) → IsInSet (dom_at ds p.second) v → (u : ℤ) × (w : ℤ) × IsInSet (dom_at ds p.across) u × IsInSet (dom_at ds p.first) w × (v ≡ number_on p u w)

-- its ends are 64 or more apart
abbrev pub IsWide : List (ℤ × ℤ) → Type 0
IsWide d = (least d +ℤ pos 63) <ℤ greatest d

-- Its variables are the terms of a sum, and its numbers are those for which the sum is a number; so the sum rests where all numbers
-- have partners.
pub record IsPlaneIn (p : Plane) (ks : List ℤ) (ts : List Term) (n : ℤ) : Type 0 where
  pub small : IsSmall p
  pub apart : AreApart p
  pub truth : (a : List ℤ) → (weighted_sum ks (term_values a ts) ≡ n) ↔ PlaneTruth p a
  pub inside : (size : ℕ) → AllByRecursion (IsTermOf size) ts → AreInside size p
  pub line : (ds : List (List (ℤ × ℤ))) → AreDomains ds → AreInside (length ds) p → HasPartners p ds → RestsSum Equal ds ks ts n
