-- Parities of terms: what is seen of them, and what a run answers.
use Rattle.std.proofs.Common.{◌≡◌, ◌⊎◌, ℕ, zero, suc, ◌<◌, ◌≤◌, ◌+◌, List, [], ◌∷◌, ◌∙◌, refl, sym, ap, subst, arith, length, take, get_or, inl, inr, add-one}
use Rattle.std.specs.Prelude.{ℤ, pos, Bool, true, false, not, Option, Some, None, slice_get}
use Rattle.std.proofs.lemmas.Bool.Decides.{Decides-int_eq}
use Rattle.std.proofs.lemmas.Int.{ints, by_lt_z}
use Rattle.fz_sets.specs.Sets.{IsInRange}
use Rattle.fz_spec.specs.declared.term.Term.{Term}
use Rattle.fz_spec.specs.declared.term.Term.TheVariants.{Num}
use Rattle.fz_spec.specs.Constraints.{term_value, term_values}
use Rattle.fz_spec.specs.Truth.{is_one}
use Rattle.fz_strength.specs.Domains.{Within, IsTermOf}
use Rattle.fz_strength.specs.Events.{IsFixedIn}
use Rattle.fz_strength.specs.Clauses.{positive, IsTrueIn, IsUntrueIn}
use Rattle.fz_strength.specs.Promises.{IsTruth}
use Rattle.fz_sets.proofs.Lists.{all_at, some_is}
use Rattle.std.proofs.lemmas.List.{take_all}
use Rattle.fz_strength.proofs.Terms.{within_before}
use Rattle.fz_prop.specs.Truths.{IsAbout}
use Rattle.fz_prop.proofs.TermChanges.{term_within}
use Rattle.fz_bool.specs.Parity.{flip, is_odd, OddTruth, OddLine, AreBooleansOf, IsLastTerm, AreTwoOpen, missing_number}
use Rattle.fz_bool.proofs.Within.{makes_true, not_made_true}

-- ---- places of lists

pub at_place : (ts : List Term) (i : ℕ) → i < length ts → slice_get ts i ≡ Some (get_or ts i (Num (pos 0)))
at_place [] i inside = absurd (omega (arith, inside))
at_place (t ∷ ts) zero inside = refl
at_place (t ∷ ts) (suc i) inside = at_place ts i (omega (arith, inside))

-- ---- odd numbers of ones

pub flips : (b c d : Bool) → flip b (flip c d) ≡ flip c (flip b d)
flips false c d = refl
flips true false d = refl
flips true true d = refl

odd_suc : (a : List ℤ) (ts : List Term) (n : ℕ) (t : Term) → slice_get ts n ≡ Some t → is_odd (term_values a (take (suc n) ts)) ≡ flip (is_one (term_value a t)) (is_odd (term_values a (take n ts)))
odd_suc a [] n t at = absurd (cc (at))
odd_suc a (u ∷ us) zero t at = ap (λ (v : Term). flip (is_one (term_value a v)) false) (some_is u t at)
odd_suc a (u ∷ us) (suc n) t at =
    ap (flip (is_one (term_value a u))) (odd_suc a us n t at) ∙ flips (is_one (term_value a u)) (is_one (term_value a t)) (is_odd (term_values a (take n us)))

pub odd_more : (a : List ℤ) (ts : List Term) (n : ℕ) (t : Term) → slice_get ts n ≡ Some t → is_odd (term_values a (take (n + 1) ts)) ≡ flip (is_one (term_value a t)) (is_odd (term_values a (take n ts)))
odd_more a ts n t at = rw add-one (odd_suc a ts n t at)

-- ---- the first that many

abbrev pub last_one : List ℤ → Option Term → Bool
last_one a None = false
last_one a (Some t) = is_one (term_value a t)

-- the one open term, if there is one, and whether an odd number of the others are 1
abbrev pub IsOddSoFar : Option Term → Bool → List (List (ℤ × ℤ)) → List Term → ℕ → Type 0
IsOddSoFar last odd ds ts n = (a : List ℤ) → Within ds a → is_odd (term_values a (take n ts)) ≡ flip (last_one a last) odd

pub record IsOpenTerm (ds : List (List (ℤ × ℤ))) (ts : List Term) (n : ℕ) (t : Term) : Type 0 where
  pub place : ℕ
  pub inside : place < n
  pub at : slice_get ts place ≡ Some t
  pub unfixed : IsFixedIn ds t → ⊥

abbrev pub IsOpenSoFar : Option Term → List (List (ℤ × ℤ)) → List Term → ℕ → Type 0
IsOpenSoFar None ds ts n = Unit {0}
IsOpenSoFar (Some t) ds ts n = IsOpenTerm ds ts n t

pub record SeenSoFar (last : Option Term) (odd : Bool) (ds : List (List (ℤ × ℤ))) (ts : List Term) (n : ℕ) : Type 0 where
  pub sum : IsOddSoFar last odd ds ts n
  pub open_term : IsOpenSoFar last ds ts n

open_more : (last : Option Term) (ds : List (List (ℤ × ℤ))) (ts : List Term) (n : ℕ) → IsOpenSoFar last ds ts n → IsOpenSoFar last ds ts (n + 1)
open_more None ds ts n h = tt
open_more (Some t) ds ts n h = record { place = h.place; inside = omega (arith, h.inside); at = h.at; unfixed = h.unfixed }

-- the bit of a term that is fixed
pub bit_true : (ds : List (List (ℤ × ℤ))) (t : Term) (a : List ℤ) → IsTermOf (length ds) t → IsTrueIn ds (positive t) → Within ds a → is_one (term_value a t) ≡ true
bit_true ds t a is holds within = (Decides-int_eq (term_value a t) (pos 1)).1 (makes_true ds (positive t) a is within holds)

pub bit_false : (ds : List (List (ℤ × ℤ))) (t : Term) (a : List ℤ) → IsTermOf (length ds) t → IsUntrueIn ds (positive t) → Within ds a → is_one (term_value a t) ≡ false
bit_false ds t a is untrue within = elim (is_one (term_value a t)) as (λ b. is_one (term_value a t) ≡ b → b ≡ false) [
  | true ↦ λ e. absurd (not_made_true ds (positive t) a is within untrue ((Decides-int_eq (term_value a t) (pos 1)).0 e))
  | false ↦ λ e. refl
] refl

fixed_next : (b : Bool) (last : Option Term) (odd : Bool) (ds : List (List (ℤ × ℤ))) (ts : List Term) (n : ℕ) (t : Term) → slice_get ts n ≡ Some t
    → ((a : List ℤ) → Within ds a → is_one (term_value a t) ≡ b) → SeenSoFar last odd ds ts n → SeenSoFar last (flip b odd) ds ts (n + 1)
fixed_next b last odd ds ts n t at bit before = record {
  sum = λ a within.
      odd_more a ts n t at ∙ ap (λ (c : Bool). flip c (is_odd (term_values a (take n ts)))) (bit a within) ∙ ap (flip b) (before.sum a within) ∙ flips b (last_one a last) odd;
  open_term = open_more last ds ts n before.open_term;
}

pub true_next : (last : Option Term) (odd : Bool) (ds : List (List (ℤ × ℤ))) (ts : List Term) (n : ℕ) (t : Term) → slice_get ts n ≡ Some t → IsTermOf (length ds) t → IsTrueIn ds (positive t)
    → SeenSoFar last odd ds ts n → SeenSoFar last (not odd) ds ts (n + 1)
true_next last odd ds ts n t at is holds before = fixed_next true last odd ds ts n t at (λ a within. bit_true ds t a is holds within) before

pub false_next : (last : Option Term) (odd : Bool) (ds : List (List (ℤ × ℤ))) (ts : List Term) (n : ℕ) (t : Term) → slice_get ts n ≡ Some t → IsTermOf (length ds) t → IsUntrueIn ds (positive t)
    → SeenSoFar last odd ds ts n → SeenSoFar last odd ds ts (n + 1)
false_next last odd ds ts n t at is untrue before = fixed_next false last odd ds ts n t at (λ a within. bit_false ds t a is untrue within) before

pub open_next_term : (odd : Bool) (ds : List (List (ℤ × ℤ))) (ts : List Term) (n : ℕ) (t : Term) → slice_get ts n ≡ Some t → (IsFixedIn ds t → ⊥) → SeenSoFar None odd ds ts n
    → SeenSoFar (Some t) odd ds ts (n + 1)
open_next_term odd ds ts n t at unfixed before = record {
  sum = λ a within. odd_more a ts n t at ∙ ap (flip (is_one (term_value a t))) (before.sum a within);
  open_term = record { place = n; inside = omega arith; at = at; unfixed = unfixed };
}

pub two_terms : (odd : Bool) (ds : List (List (ℤ × ℤ))) (ts : List Term) (n : ℕ) (t u : Term) → slice_get ts n ≡ Some t → (IsFixedIn ds t → ⊥) → SeenSoFar (Some u) odd ds ts n → AreTwoOpen ds ts
two_terms odd ds ts n t u at unfixed before = record {
  first = before.open_term.place;
  second = n;
  apart = λ e. omega (arith, before.open_term.inside, e);
  one = u;
  other = t;
  at_first = before.open_term.at;
  at_second = at;
  one_open = before.open_term.unfixed;
  other_open = unfixed;
}

pub all_seen : (odd : Bool) (ds : List (List (ℤ × ℤ))) (ts : List Term) (n : ℕ) → length ts ≤ n → SeenSoFar None odd ds ts n → (a : List ℤ) → Within ds a → OddTruth ts odd a
all_seen odd ds ts n whole before a within = ap (λ (us : List Term). is_odd (term_values a us)) (sym (take_all n ts whole)) ∙ before.sum a within

pub last_seen : (odd : Bool) (ds : List (List (ℤ × ℤ))) (ts : List Term) (n : ℕ) (t : Term) → length ts ≤ n → SeenSoFar (Some t) odd ds ts n → IsLastTerm ds ts t odd
last_seen odd ds ts n t whole before = record {
  place = before.open_term.place;
  at = before.open_term.at;
  unfixed = before.open_term.unfixed;
  sum = λ a within. ap (λ (us : List Term). is_odd (term_values a us)) (sym (take_all n ts whole)) ∙ before.sum a within;
}

-- ---- what a run answers

missing_enough : (sum odd : Bool) (x : ℤ) → x ≡ missing_number sum odd → flip (is_one x) sum ≡ odd
missing_enough false false x e = rw e refl
missing_enough false true x e = rw e refl
missing_enough true false x e = rw e refl
missing_enough true true x e = rw e refl

pub zero_or_one : (x : ℤ) → IsInRange (pos 0, pos 1) x → (x ≡ pos 0) ⊎ (x ≡ pos 1)
zero_or_one x both = by_lt_z x (pos 1) (λ below. let low = both.0 in inl (omega (arith, ints, below, low))) (λ over. let high = both.1 in inr (omega (arith, ints, over, high)))

of_zero : (sum odd : Bool) → flip (is_one (pos 0)) sum ≡ odd → pos 0 ≡ missing_number sum odd
of_zero false false e = refl
of_zero false true e = absurd (cc (e))
of_zero true false e = absurd (cc (e))
of_zero true true e = refl

of_one : (sum odd : Bool) → flip (is_one (pos 1)) sum ≡ odd → pos 1 ≡ missing_number sum odd
of_one false false e = absurd (cc (e))
of_one false true e = refl
of_one true false e = refl
of_one true true e = absurd (cc (e))

missing_needs : (sum odd : Bool) (x : ℤ) → IsInRange (pos 0, pos 1) x → flip (is_one x) sum ≡ odd → x ≡ missing_number sum odd
missing_needs sum odd x both e = elim (zero_or_one x both) [
  | inl is ↦ is ∙ of_zero sum odd (subst (λ (y : ℤ). flip (is_one y) sum ≡ odd) is e)
  | inr is ↦ is ∙ of_one sum odd (subst (λ (y : ℤ). flip (is_one y) sum ≡ odd) is e)
]

pub last_odd : (ts : List Term) (t : Term) (sum odd : Bool) (ds : List (List (ℤ × ℤ))) → AreBooleansOf ds ts → IsLastTerm ds ts t sum
    → IsAbout t (λ u. u ≡ missing_number sum odd) (OddTruth ts odd) (OddLine ts odd) ds
last_odd ts t sum odd ds are last =
    let of = all_at (λ (u : Term). IsTermOf (length ds) u × IsTruth ds u) ts last.place t are last.at in
    record {
      needs = λ a within truth. missing_needs sum odd (term_value a t) (of.1 (term_value a t) (term_within ds a t of.0 within)) (sym (last.sum a within) ∙ truth);
      enough = λ a within e. last.sum a within ∙ missing_enough sum odd (term_value a t) e;
      line = λ es domains narrower all i others a within.
          let before = within_before ds es a narrower within in
          last.sum a before ∙ missing_enough sum odd (term_value a t)
          (all (term_value a t) (term_within es a t (subst (λ (n : ℕ). IsTermOf n t) (sym narrower.size) of.0) within));
    }
