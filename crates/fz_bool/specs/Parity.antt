-- Parities: whether an odd number of terms are 1, when an assignment makes one true, its line, and what is seen of its terms.
use Rattle.std.specs.Prelude.{◌≡◌, ◌≢◌, ℕ, ℤ, Bool, true, false, not, List, [], ◌∷◌, length, Some, pos, if◌then◌else◌}
use Rattle.std.specs.List.{AllByRecursion, slice_get}
use Rattle.std.specs.Ordering.{int_eq}
use Rattle.fz_spec.specs.declared.term.Term.{Term}
use Rattle.fz_spec.specs.Constraints.{term_value, term_values}
use Rattle.fz_spec.specs.Truth.{is_one}
use Rattle.fz_strength.specs.Domains.{Within, IsTermOf}
use Rattle.fz_strength.specs.Events.{IsFixedIn}
use Rattle.fz_strength.specs.Parities.{AreOthersFixed}
use Rattle.fz_strength.specs.Promises.{IsTruth}
use Rattle.fz_prop.specs.declared.kept.Kept.{Kept}
use Rattle.fz_bool.specs.declared.parity.Seen.{Seen}
use Rattle.fz_bool.specs.declared.parity.Seen.TheVariants.{All, Last, More}

-- the other truth if this holds
abbrev pub flip : Bool → Bool → Bool
flip false odd = odd
flip true odd = not odd

-- an odd number of these are 1
abbrev pub is_odd : List ℤ → Bool
is_odd [] = false
is_odd (x ∷ xs) = flip (is_one x) (is_odd xs)

-- 1 in place of 0, and 0 in place of 1
abbrev pub turned : ℤ → ℤ
turned n = if int_eq n (pos 1) then pos 0 else pos 1

abbrev pub turned_ends : Kept → Kept
turned_ends ends = record { owner = ends.owner; number = turned ends.number; front = ends.front; back = ends.back }

abbrev pub OddTruth : List Term → Bool → List ℤ → Type 0
OddTruth ts odd a = is_odd (term_values a ts) ≡ odd

abbrev pub OddLine : List Term → Bool → List (List (ℤ × ℤ)) → Type 0
OddLine ts odd ds = (i : ℕ) → AreOthersFixed ds ts i → (a : List ℤ) → Within ds a → OddTruth ts odd a

-- terms of the store, of which only 0 and 1 are left
abbrev pub AreBooleansOf : List (List (ℤ × ℤ)) → List Term → Type 0
AreBooleansOf ds ts = AllByRecursion (λ (t : Term). IsTermOf (length ds) t × IsTruth ds t) ts

-- it is open, the others are fixed, and of these an odd number are 1, or not
pub record IsLastTerm (ds : List (List (ℤ × ℤ))) (ts : List Term) (t : Term) (odd : Bool) : Type 0 where
  pub place : ℕ
  pub at : slice_get ts place ≡ Some t
  pub unfixed : IsFixedIn ds t → ⊥
  pub sum : (a : List ℤ) → Within ds a → is_odd (term_values a ts) ≡ flip (is_one (term_value a t)) odd

-- the number of one more, where an odd number are 1, or not, and are to be, or not
abbrev pub missing_number : Bool → Bool → ℤ
missing_number false odd = if odd then pos 1 else pos 0
missing_number true odd = if odd then pos 0 else pos 1

-- the one at a place is open, if there is one
abbrev pub IsOpenAt : List (List (ℤ × ℤ)) → List Term → ℕ → Type 0
IsOpenAt ds ts i = (t : Term) → slice_get ts i ≡ Some t → IsFixedIn ds t → ⊥

-- at two places there are open terms
pub record AreTwoOpen (ds : List (List (ℤ × ℤ))) (ts : List Term) : Type 0 where
  pub first : ℕ
  pub second : ℕ
  pub apart : first ≢ second
  pub one : Term
  pub other : Term
  pub at_first : slice_get ts first ≡ Some one
  pub at_second : slice_get ts second ≡ Some other
  pub one_open : IsFixedIn ds one → ⊥
  pub other_open : IsFixedIn ds other → ⊥

abbrev pub IsSeen : Seen → List (List (ℤ × ℤ)) → List Term → Type 0
IsSeen (All odd) ds ts = (a : List ℤ) → Within ds a → OddTruth ts odd a
IsSeen (Last t odd) ds ts = IsLastTerm ds ts t odd
IsSeen More ds ts = AreTwoOpen ds ts
