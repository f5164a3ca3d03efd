-- The numbers that no fixed place has, and what becomes of a place that is to keep to them.
use Rattle.std.specs.Prelude.{◌≡◌, ◌≢◌, ◌⊎◌, ℕ, ◌<◌, ◌≤◌, ℤ, pos, ◌+ℤ◌, ◌≤ℤ◌, ◌↔◌, List, slice_get, Some}
use Rattle.fz_sets.specs.Sets.{IsInSet, LEAST, GREATEST}
use Rattle.fz_dom.specs.Changes.{IsFromTo}
use Rattle.fz_spec.specs.declared.term.Term.{Term}
use Rattle.fz_strength.specs.Domains.{term_set, room}
use Rattle.fz_strength.specs.Events.{IsOnly, IsFixedIn, AllFixed}
use Rattle.fz_prop.specs.Stores.{Stored}
use Rattle.fz_alldiff.specs.Differing.{IsOnlyAt}
use Rattle.fz_alldiff.specs.declared.close.Kept.{Kept}
use Rattle.fz_alldiff.specs.declared.close.Kept.TheVariants.{Rest, Fixed, Wiped}

-- all that is left of terms lies from a low to a high
abbrev pub AreBetween : List Term → List (List (ℤ × ℤ)) → ℤ → ℤ → Type 0
AreBetween xs ds low high = (i : ℕ) (x : Term) (n : ℤ) → slice_get xs i ≡ Some x → IsInSet (term_set ds x) n → IsFromTo low high n

-- ends of which the 64 numbers from the lower one on, all within the limits, have the higher one
abbrev pub IsSpan : ℤ → ℤ → Type 0
IsSpan low high = (LEAST ≤ℤ low) × (high ≤ℤ (low +ℤ pos 63)) × ((low +ℤ pos 63) ≤ℤ GREATEST)

-- What is left of a place is free or the only number of some place; the only number of a place isn't free, and that of no other.
pub record AreFree (xs : List Term) (ds : List (List (ℤ × ℤ))) (free : ℤ → Type 0) : Type 0 where
  pub all : (i : ℕ) (x : Term) (n : ℤ) → slice_get xs i ≡ Some x → IsInSet (term_set ds x) n → free n ⊎ ((j : ℕ) × IsOnlyAt xs ds j n)
  pub taken : (i : ℕ) (n : ℤ) → IsOnlyAt xs ds i n → free n → ⊥
  pub once : (i j : ℕ) (n : ℤ) → i ≢ j → IsOnlyAt xs ds i n → IsOnlyAt xs ds j n → ⊥

-- one of any two places is fixed
abbrev pub AreFixedButOne : List Term → List (List (ℤ × ℤ)) → Type 0
AreFixedButOne xs ds = (i j : ℕ) (x y : Term) → i ≢ j → slice_get xs i ≡ Some x → slice_get xs j ≡ Some y → IsFixedIn ds x ⊎ IsFixedIn ds y

-- that many places aren't fixed: none, one or more
pub record AreOpen (xs : List Term) (ds : List (List (ℤ × ℤ))) (unfixed : ℕ) : Type 0 where
  pub none : unfixed ≡ 0 → AllFixed ds xs
  pub one : unfixed ≤ 1 → AreFixedButOne xs ds
  pub some : 0 < unfixed → AllFixed ds xs → ⊥

-- a number was free and no longer is
abbrev pub IsTaken : ℤ → (ℤ → Type 0) → (ℤ → Type 0) → Type 0
IsTaken n free left = free n × ((x : ℤ) → left x ↔ (free x × (x ≢ n)))

-- ---- one place

-- the number of a fixed term is no longer free
abbrev pub IsLast : Kept → Term → List (List (ℤ × ℤ)) → (ℤ → Type 0) → (ℤ → Type 0) → Type 0
IsLast Rest x ds free left = ((n : ℤ) → left n ↔ free n) × (IsFixedIn ds x → ⊥)
IsLast Fixed x ds free left = ((n : ℤ) → left n → free n) × ((n : ℤ) → free n → left n ⊎ IsOnly (term_set ds x) n)
IsLast Wiped x ds free left = ⊥

-- What is left of a term is free, or it was fixed; and what is no longer free is its only number.
pub record IsKeptTo (x : Term) (free left : ℤ → Type 0) (s t : Stored) : Type 0 where
  pub inside : (IsFixedIn s.doms x → ⊥) → (n : ℤ) → IsInSet (term_set t.doms x) n → free n
  pub fewer : (n : ℤ) → left n → free n
  pub taken : (n : ℤ) → free n → left n ⊎ IsOnly (term_set t.doms x) n

-- no term is fixed that wasn't
abbrev pub IsNoneNew : Stored → Stored → Type 0
IsNoneNew s t = (x : Term) (n : ℤ) → IsOnly (term_set t.doms x) n → IsOnly (term_set s.doms x) n

abbrev pub IsKept : Kept → Term → (ℤ → Type 0) → (ℤ → Type 0) → Stored → Stored → Type 0
IsKept Rest x free left s t = IsKeptTo x free left s t × IsNoneNew s t
IsKept Fixed x free left s t = IsKeptTo x free left s t × (IsFixedIn s.doms x → ⊥) × (room t.doms < room s.doms)
IsKept Wiped x free left s t = (IsFixedIn s.doms x → ⊥) × ((n : ℤ) → IsInSet (term_set s.doms x) n → free n → ⊥)
