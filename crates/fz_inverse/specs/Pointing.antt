-- Terms whose numbers are places of other terms, where each term's own place stands.
use Rattle.std.specs.Prelude.{◌≡◌, ℕ, ◌+◌, ℤ, pos, List, slice_get, Some}
use Rattle.fz_sets.specs.Sets.{IsInSet, IsWithinLimits}
use Rattle.fz_spec.specs.declared.term.Term.{Term}
use Rattle.fz_spec.specs.declared.term.Term.TheVariants.{Var}
use Rattle.fz_spec.specs.Constraints.{term_values}
use Rattle.fz_spec.specs.Truth.{PointBack, AreInverse}
use Rattle.fz_strength.specs.Domains.{term_set}

-- the values of terms point back, and those of both lists
abbrev pub PointBackAt : List Term → List Term → List ℤ → Type 0
PointBackAt terms others a = PointBack (term_values a terms) (term_values a others)

abbrev pub AreInverseAt : List Term → List Term → List ℤ → Type 0
AreInverseAt fs gs a = AreInverse (term_values a fs) (term_values a gs)

-- Of the term at an index the number of a place is left; both are counted from 0.
pub record IsLeftAt (others : List Term) (ds : List (List (ℤ × ℤ))) (place index : ℕ) : Type 0 where
  pub term : Term
  pub stands : slice_get others index ≡ Some term
  pub left : IsInSet (term_set ds term) (pos (place + 1))

-- A number of the term at a place is the place of another, of which the term's own place is left.
pub record CanPointBack (others : List Term) (ds : List (List (ℤ × ℤ))) (place : ℕ) (x : ℤ) : Type 0 where
  pub index : ℕ
  pub is_place : x ≡ pos (index + 1)
  pub back : IsLeftAt others ds place index

-- so it is of all numbers that are left
abbrev pub AllCanPointBack : List Term → List Term → List (List (ℤ × ℤ)) → Type 0
AllCanPointBack terms others ds = (i : ℕ) (t : Term) (x : ℤ) → slice_get terms i ≡ Some t → IsInSet (term_set ds t) x → CanPointBack others ds i x

-- A number is that of a place, and left.
pub record IsLeft (place : ℕ) (n : ℤ) (d : List (ℤ × ℤ)) : Type 0 where
  pub is_place : n ≡ pos (place + 1)
  pub left : IsInSet d n
  pub within : IsWithinLimits n

-- ---- terms that are different variables

-- no variable of terms is one of the others
abbrev pub AreOthers : List Term → List Term → Type 0
AreOthers terms others = (i j v : ℕ) → slice_get terms i ≡ Some (Var v) → slice_get others j ≡ Some (Var v) → ⊥

-- none stands at two places
abbrev pub AreOnce : List Term → Type 0
AreOnce terms = (i j v : ℕ) → slice_get terms i ≡ Some (Var v) → slice_get terms j ≡ Some (Var v) → i ≡ j

-- No variable of the second list stands in the first, nor at another place of the second.
pub record AreApart (fs gs : List Term) : Type 0 where
  pub others : AreOthers fs gs
  pub once : AreOnce gs

-- ---- from a store to another

-- what was left of terms still is
abbrev pub AreStill : List Term → List (List (ℤ × ℤ)) → List (List (ℤ × ℤ)) → Type 0
AreStill others ds es = (j : ℕ) (t : Term) → slice_get others j ≡ Some t → term_set es t ≡ term_set ds t

-- the numbers of terms that could point back still are left
abbrev pub AllStay : List Term → List Term → List (List (ℤ × ℤ)) → List (List (ℤ × ℤ)) → Type 0
AllStay terms others ds es = (i : ℕ) (t : Term) (x : ℤ) → slice_get terms i ≡ Some t → IsInSet (term_set ds t) x → CanPointBack others ds i x → IsInSet (term_set es t) x

-- What became of a store in which terms are kept to the numbers that can point back, where they have no variable in common with the
-- others: these are as they were, and where no variable stands at two places, no other numbers left.
pub record IsApartKept (terms others : List Term) (ds es : List (List (ℤ × ℤ))) : Type 0 where
  pub still : AreOthers terms others → AreStill others ds es
  pub stay : AreOthers terms others → AreOnce terms → AllStay terms others ds es
