-- Literals as far as they were looked at.
use Rattle.std.proofs.Common.{◌≡◌, ◌≢◌, ◌⊎◌, ℕ, zero, suc, ◌<◌, ◌≤◌, ◌+◌, List, [], ◌∷◌, ◌∙◌, refl, sym, ap, subst, arith, length, get_or, inl, inr}
use Rattle.std.specs.Prelude.{ℤ, pos, false, Option, Some, None, slice_get}
use Rattle.std.specs.List.{AllByRecursion}
use Rattle.std.proofs.lemmas.Bool.{cases_eq, cases_lt}
use Rattle.fz_sets.proofs.Lists.{all_of, some_is, all_at}
use Rattle.fz_spec.specs.declared.term.Term.TheVariants.{Num}
use Rattle.fz_spec.specs.Truth.{SomeByRecursion}
use Rattle.fz_strength.specs.declared.literal.Literal.{Literal}
use Rattle.fz_strength.specs.Domains.{term_set}
use Rattle.fz_strength.specs.Events.{IsFixedIn}
use Rattle.fz_strength.specs.Clauses.{IsTrueIn, IsUntrueIn, true_number}
use Rattle.fz_strength.proofs.Terms.{only_number}
use Rattle.fz_prop.specs.Told.{AreUntrueBelow, AreEndsUntrue}
use Rattle.fz_bool.specs.declared.literals.State.{State}
use Rattle.fz_bool.specs.declared.literals.State.TheVariants.{True, False, Open}
use Rattle.fz_bool.specs.Looks.{IsOpen, IsLastOf, HasTwoOpen, IsTruthAmong}

-- ---- places of lists

-- what a read past the end would give
abbrev pub blank : Literal
blank = record { term = Num (pos 0); negated = false }

pub at_place : (ls : List Literal) (i : ℕ) → i < length ls → slice_get ls i ≡ Some (get_or ls i blank)
at_place [] i inside = absurd (omega (arith, inside))
at_place (l ∷ ls) zero inside = refl
at_place (l ∷ ls) (suc i) inside = at_place ls i (omega (arith, inside))

pub inside_of : {X : Type 0} (xs : List X) (i : ℕ) (x : X) → slice_get xs i ≡ Some x → i < length xs
inside_of [] i x at = absurd (cc (at))
inside_of (y ∷ ys) zero x at = omega arith
inside_of (y ∷ ys) (suc i) x at = let inside = inside_of ys i x at in omega (arith, inside)

pub some_at : {X : Type 0} (P : X → Type 0) (xs : List X) (i : ℕ) (x : X) → slice_get xs i ≡ Some x → P x → SomeByRecursion P xs
some_at P [] i x at holds = absurd (cc (at))
some_at P (y ∷ ys) zero x at holds = let e : x ≡ y = cc in inl (subst P e holds)
some_at P (y ∷ ys) (suc i) x at holds = inr (some_at P ys i x at holds)

pub none_of : {X : Type 0} (P : X → Type 0) (xs : List X) → ((i : ℕ) (x : X) → slice_get xs i ≡ Some x → P x → ⊥) → SomeByRecursion P xs → ⊥
none_of P [] each some = some
none_of P (x ∷ xs) each (inl here) = each 0 x refl here
none_of P (x ∷ xs) each (inr there) = none_of P xs (λ i y at. each (suc i) y at) there

-- ---- the first that many

-- one is open, and the others are untrue
pub record IsLastBelow (ds : List (List (ℤ × ℤ))) (ls : List Literal) (n : ℕ) (l : Literal) : Type 0 where
  pub place : ℕ
  pub inside : place < n
  pub at : slice_get ls place ≡ Some l
  pub unfixed : IsOpen ds l
  pub others : (j : ℕ) (k : Literal) → j < n → j ≢ place → slice_get ls j ≡ Some k → IsUntrueIn ds k

abbrev pub LastSoFar : Option Literal → List (List (ℤ × ℤ)) → List Literal → ℕ → Type 0
LastSoFar None ds ls n = AreUntrueBelow ds ls n
LastSoFar (Some l) ds ls n = IsLastBelow ds ls n l

-- at place n or before
pub split : (j n : ℕ) → j < n + 1 → (j ≡ n) ⊎ (j < n)
split j n below = elim (cases_eq j n) [ inl e ↦ inl e | inr ne ↦ inr (omega (arith, below, ne)) ]

pub untrue_more : (ds : List (List (ℤ × ℤ))) (ls : List Literal) (n : ℕ) (l : Literal) → slice_get ls n ≡ Some l → IsUntrueIn ds l → AreUntrueBelow ds ls n → AreUntrueBelow ds ls (n + 1)
untrue_more ds ls n l here untrue before = λ j k below at. elim (split j n below) [
  | inl e ↦ subst (IsUntrueIn ds) (some_is l k (sym here ∙ ap (slice_get ls) (sym e) ∙ at)) untrue
  | inr less ↦ before j k less at
]

pub untrue_next : (last : Option Literal) (ds : List (List (ℤ × ℤ))) (ls : List Literal) (n : ℕ) (l : Literal) → slice_get ls n ≡ Some l → IsUntrueIn ds l → LastSoFar last ds ls n
    → LastSoFar last ds ls (n + 1)
untrue_next None ds ls n l here untrue before = untrue_more ds ls n l here untrue before
untrue_next (Some k) ds ls n l here untrue before = record {
  place = before.place;
  inside = omega (arith, before.inside);
  at = before.at;
  unfixed = before.unfixed;
  others = λ j m below ne at. elim (split j n below) [
    | inl e ↦ subst (IsUntrueIn ds) (some_is l m (sym here ∙ ap (slice_get ls) (sym e) ∙ at)) untrue
    | inr less ↦ before.others j m less ne at
  ];
}

pub open_next : (ds : List (List (ℤ × ℤ))) (ls : List Literal) (n : ℕ) (l : Literal) → slice_get ls n ≡ Some l → IsOpen ds l → AreUntrueBelow ds ls n → IsLastBelow ds ls (n + 1) l
open_next ds ls n l here unfixed before = record {
  place = n;
  inside = omega arith;
  at = here;
  unfixed = unfixed;
  others = λ j m below ne at. elim (split j n below) [ inl e ↦ absurd (ne e) | inr less ↦ before j m less at ];
}

pub two_open : (ds : List (List (ℤ × ℤ))) (ls : List Literal) (n : ℕ) (l k : Literal) → slice_get ls n ≡ Some l → IsOpen ds l → IsLastBelow ds ls n k → HasTwoOpen ds ls
two_open ds ls n l k here unfixed before = record {
  first = before.place;
  second = n;
  apart = λ e. omega (arith, before.inside, e);
  one = k;
  other = l;
  at_first = before.at;
  at_second = here;
  one_open = before.unfixed;
  other_open = unfixed;
}

pub last_of : (ds : List (List (ℤ × ℤ))) (ls : List Literal) (n : ℕ) (l : Literal) → length ls ≤ n → IsLastBelow ds ls n l → IsLastOf ds ls l
last_of ds ls n l whole before = record {
  place = before.place;
  at = before.at;
  unfixed = before.unfixed;
  others = λ j m at ne. let inside = inside_of ls j m at in before.others j m (omega (arith, inside, whole)) ne at;
}

pub all_untrue : (ds : List (List (ℤ × ℤ))) (ls : List Literal) (n : ℕ) → length ls ≤ n → AreUntrueBelow ds ls n → AllByRecursion (IsUntrueIn ds) ls
all_untrue ds ls n whole before = all_of (IsUntrueIn ds) ls (λ i l at. let inside = inside_of ls i l at in before i l (omega (arith, inside, whole)) at)

-- ---- whether one is true

abbrev AreNotTrueBelow : List (List (ℤ × ℤ)) → List Literal → ℕ → Type 0
AreNotTrueBelow ds ls n = (j : ℕ) (k : Literal) → j < n → slice_get ls j ≡ Some k → IsTrueIn ds k → ⊥

pub record HasOpen (ds : List (List (ℤ × ℤ))) (ls : List Literal) : Type 0 where
  pub place : ℕ
  pub literal : Literal
  pub at : slice_get ls place ≡ Some literal
  pub unfixed : IsOpen ds literal

-- all are untrue, or one is open and none is true
abbrev pub StateSoFar : State → List (List (ℤ × ℤ)) → List Literal → ℕ → Type 0
StateSoFar True ds ls n = ⊥
StateSoFar False ds ls n = AreUntrueBelow ds ls n
StateSoFar Open ds ls n = AreNotTrueBelow ds ls n × HasOpen ds ls

pub untrue_not_true : (ds : List (List (ℤ × ℤ))) (l : Literal) → IsUntrueIn ds l → IsTrueIn ds l → ⊥
untrue_not_true ds l untrue holds = untrue.2 (only_number (term_set ds l.term) untrue.0 (true_number l) untrue.1 holds)

pub open_not_true : (ds : List (List (ℤ × ℤ))) (l : Literal) → IsOpen ds l → IsTrueIn ds l → ⊥
open_not_true ds l unfixed holds = unfixed (true_number l, holds)

not_true_more : (ds : List (List (ℤ × ℤ))) (ls : List Literal) (n : ℕ) (l : Literal) → slice_get ls n ≡ Some l → (IsTrueIn ds l → ⊥) → AreNotTrueBelow ds ls n → AreNotTrueBelow ds ls (n + 1)
not_true_more ds ls n l here not before = λ j k below at holds. elim (split j n below) [
  | inl e ↦ not (subst (IsTrueIn ds) (some_is k l (sym at ∙ ap (slice_get ls) e ∙ here)) holds)
  | inr less ↦ before j k less at holds
]

pub state_untrue : (state : State) (ds : List (List (ℤ × ℤ))) (ls : List Literal) (n : ℕ) (l : Literal) → slice_get ls n ≡ Some l → IsUntrueIn ds l → StateSoFar state ds ls n
    → StateSoFar state ds ls (n + 1)
state_untrue True ds ls n l here untrue before = before
state_untrue False ds ls n l here untrue before = untrue_more ds ls n l here untrue before
state_untrue Open ds ls n l here untrue before = (not_true_more ds ls n l here (untrue_not_true ds l untrue) before.0, before.1)

pub state_open : (state : State) (ds : List (List (ℤ × ℤ))) (ls : List Literal) (n : ℕ) (l : Literal) → slice_get ls n ≡ Some l → IsOpen ds l → StateSoFar state ds ls n
    → StateSoFar Open ds ls (n + 1)
state_open True ds ls n l here unfixed before = absurd before
state_open False ds ls n l here unfixed before = (
  not_true_more ds ls n l here (open_not_true ds l unfixed) (λ j k below at. untrue_not_true ds k (before j k below at)),
  record { place = n; literal = l; at = here; unfixed = unfixed },
)
state_open Open ds ls n l here unfixed before = (not_true_more ds ls n l here (open_not_true ds l unfixed) before.0, before.1)

pub truth_of : (state : State) (ds : List (List (ℤ × ℤ))) (ls : List Literal) (n : ℕ) → length ls ≤ n → StateSoFar state ds ls n → IsTruthAmong state ds ls
truth_of True ds ls n whole before = absurd before
truth_of False ds ls n whole before = all_untrue ds ls n whole before
truth_of Open ds ls n whole before = (
  (λ some. none_of (IsTrueIn ds) ls (λ i l at. let inside = inside_of ls i l at in before.0 i l (omega (arith, inside, whole)) at) some),
  (λ all. before.1.unfixed (all_at (λ (l : Literal). IsFixedIn ds l.term) ls before.1.place before.1.literal all before.1.at)),
)

-- ---- the ends

-- the ends meet
pub ends_none : (ds : List (List (ℤ × ℤ))) (ls : List Literal) (front back : ℕ) → length ls ≤ front + back → AreEndsUntrue ls front back ds → AllByRecursion (IsUntrueIn ds) ls
ends_none ds ls front back whole told = all_of (IsUntrueIn ds) ls
    (λ i l at. elim (cases_lt i front) [ inl below ↦ told.before i l below at | inr above ↦ told.behind i l (omega (arith, whole, above)) at ])

-- one literal lies between them
pub ends_one : (ds : List (List (ℤ × ℤ))) (ls : List Literal) (front back : ℕ) (l : Literal) → front + 1 + back ≡ length ls → slice_get ls front ≡ Some l → IsOpen ds l → AreEndsUntrue ls front back ds
    → IsLastOf ds ls l
ends_one ds ls front back l is here unfixed told = record {
  place = front;
  at = here;
  unfixed = unfixed;
  others = λ j k at ne. elim (cases_lt j front) [ inl below ↦ told.before j k below at | inr above ↦ told.behind j k (omega (arith, is, above, ne)) at ];
}
