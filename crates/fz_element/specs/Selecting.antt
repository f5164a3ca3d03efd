-- An index into a list of numbers: when an assignment makes it true, its line, and what its propagator makes.
use Rattle.std.specs.Prelude.{◌↔◌, ℤ, pos, ◌+ℤ◌, ◌≤ℤ◌, ◌<ℤ◌, List}
use Rattle.std.specs.List.{AllByRecursion}
use Rattle.fz_sets.specs.Sets.{IsInSet, AreWithinLimits}
use Rattle.fz_bits.specs.declared.window.Window.{Window}
use Rattle.fz_bits.specs.Windows.{IsBit}
use Rattle.fz_spec.specs.declared.term.Term.{Term}
use Rattle.fz_spec.specs.Constraints.{term_value}
use Rattle.fz_spec.specs.Truth.{IsElement}
use Rattle.fz_strength.specs.Domains.{term_set}
use Rattle.fz_strength.specs.Elements.{AreMatched}
use Rattle.fz_prop.specs.Matching.{HasRoom}
use Rattle.fz_element.specs.declared.numbers.Numbers.{Numbers}
use Rattle.fz_element.specs.declared.numbers.Numbers.TheVariants.{Near, Far}

abbrev pub IsSelected : Term → List ℤ → Term → List ℤ → Type 0
IsSelected k xs c a = IsElement (term_value a k) xs (term_value a c)

abbrev pub SelectionLine : Term → List ℤ → Term → List (List (ℤ × ℤ)) → Type 0
SelectionLine k xs c ds = AreMatched xs (term_set ds k) (term_set ds c)

-- an index with one property whose number has another
pub record IsPair (xs : List ℤ) (D E : ℤ → Type 0) (k n : ℤ) : Type 0 where
  pub stands : IsElement k xs n
  pub index : D k
  pub number : E n

-- the indices of all such pairs, and their numbers
pub record ArePairs (xs : List ℤ) (D E P Q : ℤ → Type 0) : Type 0 where
  pub indices_are : (k : ℤ) → P k ↔ ((n : ℤ) × IsPair xs D E k n)
  pub numbers_are : (n : ℤ) → Q n ↔ ((k : ℤ) × IsPair xs D E k n)

-- the pairs whose index is below j, as ranges of indices and of numbers
pub record ArePairsBelow (xs : List ℤ) (D E : ℤ → Type 0) (indices numbers : List (ℤ × ℤ)) (j : ℤ) : Type 0 where
  pub indices_are : (k : ℤ) → IsInSet indices k ↔ ((n : ℤ) × IsPair xs D E k n × (k <ℤ j))
  pub numbers_are : (n : ℤ) → IsInSet numbers n ↔ ((k : ℤ) × IsPair xs D E k n × (k <ℤ j))
  pub index_limits : AreWithinLimits indices
  pub number_limits : AreWithinLimits numbers

-- and all pairs
pub record AreAllPairs (xs : List ℤ) (D E : ℤ → Type 0) (indices numbers : List (ℤ × ℤ)) : Type 0 where
  pub pairs : ArePairs xs D E (λ k. IsInSet indices k) (λ n. IsInSet numbers n)
  pub index_limits : AreWithinLimits indices
  pub number_limits : AreWithinLimits numbers

-- ---- what a term is to keep

-- a number is one of these
abbrev pub Has : Numbers → ℤ → Type 0
Has (Near w) x = IsBit w.base w.bits x
Has (Far d) x = IsInSet d x

abbrev pub AreWithin : Numbers → Type 0
AreWithin (Near w) = HasRoom w.base
AreWithin (Far d) = Unit {0}

-- ---- windows of what is left

-- of the 64 numbers from its base on a window has those that have a property
abbrev pub IsSeen : (ℤ → Type 0) → Window → Type 0
IsSeen P w = (x : ℤ) → w.base ≤ℤ x → x ≤ℤ (w.base +ℤ pos 63) → IsBit w.base w.bits x ↔ P x

abbrev pub AreSeen : (ℤ → Type 0) → List Window → Type 0
AreSeen P ws = AllByRecursion (IsSeen P) ws
