-- The numbers of three terms that make a sum, each as a window or as ranges.
use Rattle.std.specs.Prelude.{◌≤ℤ◌, ◌+ℤ◌, ℤ, pos, Option, Some, None, List}
use Rattle.fz_bits.specs.declared.window.Window.{Window}
use Rattle.fz_bits.specs.Windows.{IsBit}
use Rattle.fz_sets.specs.Sets.{IsInSet, IsWithinLimits}
use Rattle.fz_spec.specs.declared.term.Term.{Term}
use Rattle.fz_spec.specs.declared.term.Term.TheVariants.{Num, Var}
use Rattle.fz_strength.specs.Domains.{term_set}
use Rattle.fz_prop.specs.Matching.{HasRoom}
use Rattle.fz_partners.specs.declared.equation.Equation.{Equation}
use Rattle.fz_partners.specs.declared.found.Found.{Found}
use Rattle.fz_partners.specs.declared.numbers.Numbers.{Numbers}
use Rattle.fz_partners.specs.Equations.{IsLeft, IsSolution}

-- a number is one of a window, where there is one, else of ranges
abbrev pub IsOneOf : Option Window → List (ℤ × ℤ) → ℤ → Type 0
IsOneOf (Some w) rs x = IsBit w.base w.bits x
IsOneOf None rs x = IsInSet rs x

-- a number is one of them
abbrev pub Has : Numbers → ℤ → Type 0
Has n x = IsOneOf n.window n.spans x

-- there is a place for a number
abbrev pub HasPlace : Option Window → ℤ → Type 0
HasPlace (Some w) x = (w.base ≤ℤ x) × (x ≤ℤ (w.base +ℤ pos 63))
HasPlace None x = IsWithinLimits x

-- they lie within the limits; a number that is a term may lie beyond
abbrev pub AreInside : Term → Option Window → List (ℤ × ℤ) → Type 0
AreInside (Var v) (Some w) rs = HasRoom w.base
AreInside (Num n) (Some w) rs = Unit {0}
AreInside t None rs = (x : ℤ) → IsInSet rs x → IsWithinLimits x

-- They are of a term, and each number that is left of it has a place among them.
pub record AreOf (ds : List (List (ℤ × ℤ))) (t : Term) (n : Numbers) : Type 0 where
  pub inside : AreInside t n.window n.spans
  pub places : (x : ℤ) → IsInSet (term_set ds t) x → HasPlace n.window x

-- those that are found of three terms are of these
pub record AreOfTerms (ds : List (List (ℤ × ℤ))) (e : Equation) (f : Found) : Type 0 where
  pub first : AreOf ds e.first.term f.first
  pub second : AreOf ds e.second.term f.second
  pub third : AreOf ds e.third.term f.third

-- numbers that are left, and make the sum
abbrev pub AreTogether : List (List (ℤ × ℤ)) → Equation → ℤ → ℤ → ℤ → Type 0
AreTogether ds e u v w = IsLeft ds e u v w × IsSolution e u v w

-- Each number that is found has two others with which it makes the sum, and of all that do so each number is found.
pub record AreFound (ds : List (List (ℤ × ℤ))) (e : Equation) (f : Found) : Type 0 where
  pub first : (u : ℤ) → Has f.first u → (v : ℤ) × (w : ℤ) × AreTogether ds e u v w
  pub second : (v : ℤ) → Has f.second v → (u : ℤ) × (w : ℤ) × AreTogether ds e u v w
  pub third : (w : ℤ) → Has f.third w → (u : ℤ) × (v : ℤ) × AreTogether ds e u v w
  pub all : (u v w : ℤ) → AreTogether ds e u v w → Has f.first u × Has f.second v × Has f.third w
