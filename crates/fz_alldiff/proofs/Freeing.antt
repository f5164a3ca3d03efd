-- Taking the numbers of fixed places from those that are free.
use Rattle.std.proofs.Common.{◌≡◌, ◌≢◌, ◌<◌, ◌≤◌, ℕ, ◌+◌, suc, List, [], ◌∷◌, refl, sym, subst, ◌∙◌, arith, length, ◌⊎◌, inl, inr, true, false}
use Rattle.std.specs.Ordering.{int_eq}
use Rattle.std.proofs.lemmas.Bool.Decides.{Decides-int_eq}
use Rattle.std.specs.Prelude.{ℤ, pos, ◌+ℤ◌, ◌≤ℤ◌, ◌↔◌, slice_get, Some}
use Rattle.std.specs.List.{AllByRecursion}
use Rattle.std.proofs.lemmas.Bool.{cases_eq}
use Rattle.std.proofs.lemmas.Int.{ints}
use Rattle.std.proofs.lemmas.Option.{slice_get_within}
use Rattle.fz_sets.specs.Sets.{IsInSet}
use Rattle.fz_sets.proofs.Lists.{all_at}
use Rattle.fz_dom.specs.Changes.{IsFromTo}
use Rattle.fz_spec.specs.declared.term.Term.{Term}
use Rattle.fz_spec.specs.Constraints.{term_value}
use Rattle.fz_strength.specs.Domains.{term_set, IsTermOf}
use Rattle.fz_strength.specs.Events.{IsOnly, IsFixedIn, AllFixed}
use Rattle.fz_alldiff.specs.Differing.{AreNeverDifferent, IsOnlyAt}
use Rattle.fz_alldiff.specs.Freeing.{AreBetween, AreFree, AreOpen, IsTaken}
use Rattle.fz_alldiff.proofs.Clearing.{has_only, same_term}
use Rattle.fz_alldiff.proofs.Removing.{has_other}
use Rattle.fz_prop.proofs.TermChanges.{term_within, only_in}

-- ---- one number

same_number : (x y : ℤ) → (x ≡ y) ⊎ (x ≢ y)
same_number x y = elim (int_eq x y) as (λ b. int_eq x y ≡ b → (x ≡ y) ⊎ (x ≢ y)) [
  | true ↦ λ e. inl ((Decides-int_eq x y).0 e)
  | false ↦ λ e. inr (λ same. let yes = (Decides-int_eq x y).1 same in absurd (cc (yes, e)))
] refl

-- ---- the loop

-- Before place k: the only number of a place isn't free, and that of no other.
pub record AreFreeBelow (xs : List Term) (ds : List (List (ℤ × ℤ))) (low high : ℤ) (free : ℤ → Type 0) (k : ℕ) : Type 0 where
  pub all : (n : ℤ) → IsFromTo low high n → free n ⊎ ((j : ℕ) × (j < k) × IsOnlyAt xs ds j n)
  pub taken : (i : ℕ) (n : ℤ) → i < k → IsOnlyAt xs ds i n → free n → ⊥
  pub once : (i j : ℕ) (n : ℤ) → i < k → j < k → i ≢ j → IsOnlyAt xs ds i n → IsOnlyAt xs ds j n → ⊥

pub free_first : (xs : List Term) (ds : List (List (ℤ × ℤ))) (low high : ℤ) (free : ℤ → Type 0) → high ≤ℤ (low +ℤ pos 63)
    → ((n : ℤ) → free n ↔ ((low ≤ℤ n) × (n ≤ℤ (low +ℤ pos 63)))) → AreFreeBelow xs ds low high free 0
free_first xs ds low high free near is = record {
  all = λ n between. (let from = between.0 in let to = between.1 in inl ((is n).1 (from, omega (arith, ints, to, near))));
  taken = λ i n below. absurd (omega (arith, below));
  once = λ i j n below. absurd (omega (arith, below));
}

-- a place that is fixed
pub free_more : (xs : List Term) (ds : List (List (ℤ × ℤ))) (low high n : ℤ) (free left : ℤ → Type 0) (k : ℕ) → IsOnlyAt xs ds k n
    → IsTaken n free left → AreFreeBelow xs ds low high free k → AreFreeBelow xs ds low high left (k + 1)
free_more xs ds low high n free left k only now h =
    let here : (m : ℤ) → IsOnlyAt xs ds k m → m ≡ n = λ m at.
    only_in (term_set ds only.0) n m only.2 (subst (λ (t : Term). IsInSet (term_set ds t) m) (same_term xs k at.0 only.0 at.1 only.1) (has_only (term_set ds at.0) m at.2)) in
    let before : (i : ℕ) → IsOnlyAt xs ds i n → i < k → ⊥ = λ i at below. h.taken i n below at now.0 in
    record {
      all = λ m within. elim (h.all m within) [
        | inl is ↦ elim (same_number m n) [
          | inl same ↦ inr (k, omega arith, subst (IsOnlyAt xs ds k) (sym same) only)
          | inr other ↦ inl ((now.1 m).1 (is, other))
        ]
        | inr p ↦ inr (p.0, (let below = p.1 in omega (arith, below)), p.2)
      ];
      taken = λ i m below at is. elim (cases_eq i k) [
        | inl e ↦ ((now.1 m).0 is).1 (here m (subst (λ (j : ℕ). IsOnlyAt xs ds j m) e at))
        | inr ne ↦ h.taken i m (omega (arith, below, ne)) at ((now.1 m).0 is).0
      ];
      once = λ i j m below_i below_j other at_i at_j. elim (cases_eq i k) [
        | inl e ↦
            let same : m ≡ n = here m (subst (λ (q : ℕ). IsOnlyAt xs ds q m) e at_i) in
            before j (subst (IsOnlyAt xs ds j) same at_j) (let ne : j ≢ k = λ f. other (e ∙ sym f) in omega (arith, below_j, ne))
        | inr ne ↦ elim (cases_eq j k) [
          | inl e ↦
              let same : m ≡ n = here m (subst (λ (q : ℕ). IsOnlyAt xs ds q m) e at_j) in
              before i (subst (IsOnlyAt xs ds i) same at_i) (omega (arith, below_i, ne))
          | inr nf ↦ h.once i j m (omega (arith, below_i, ne)) (omega (arith, below_j, nf)) other at_i at_j
        ]
      ];
    }

-- a place that isn't fixed
pub free_passed : (xs : List Term) (ds : List (List (ℤ × ℤ))) (low high : ℤ) (free : ℤ → Type 0) (k : ℕ) → ((n : ℤ) → IsOnlyAt xs ds k n → ⊥) → AreFreeBelow xs ds low high free k
    → AreFreeBelow xs ds low high free (k + 1)
free_passed xs ds low high free k none h =
    let before : (i : ℕ) (n : ℤ) → IsOnlyAt xs ds i n → i < k + 1 → i < k = λ i n at below. elim (cases_eq i k) [
      | inl e ↦ absurd (none n (subst (λ (q : ℕ). IsOnlyAt xs ds q n) e at))
      | inr ne ↦ omega (arith, below, ne)
    ] in
    record {
      all = λ n within. elim (h.all n within) [ inl is ↦ inl is | inr p ↦ inr (p.0, (let below = p.1 in omega (arith, below)), p.2) ];
      taken = λ i n below at. h.taken i n (before i n at below) at;
      once = λ i j n below_i below_j other at_i at_j. h.once i j n (before i n at_i below_i) (before j n at_j below_j) other at_i at_j;
    }

pub free_all : (xs : List Term) (ds : List (List (ℤ × ℤ))) (low high : ℤ) (free : ℤ → Type 0) (k : ℕ) → AreBetween xs ds low high → length xs ≤ k → AreFreeBelow xs ds low high free k
    → AreFree xs ds free
free_all xs ds low high free k between end h =
    let below : (i : ℕ) (n : ℤ) → IsOnlyAt xs ds i n → i < k = λ i n at. (let inside = slice_get_within xs i at.0 at.1 in omega (arith, end, inside)) in
    record {
      all = λ i x n at is. elim (h.all n (between i x n at is)) [ inl free_is ↦ inl free_is | inr p ↦ inr (p.0, p.2) ];
      taken = λ i n at. h.taken i n (below i n at) at;
      once = λ i j n other at_i at_j. h.once i j n (below i n at_i) (below j n at_j) other at_i at_j;
    }

-- two places have one number
pub never_free : (xs : List Term) (ds : List (List (ℤ × ℤ))) (low high n : ℤ) (free : ℤ → Type 0) (k : ℕ) → AllByRecursion (IsTermOf (length ds)) xs → AreBetween xs ds low high
    → IsOnlyAt xs ds k n → (free n → ⊥) → AreFreeBelow xs ds low high free k → AreNeverDifferent xs ds
never_free xs ds low high n free k terms between only missing h = λ a within all.
    elim (h.all n (between k only.0 n only.1 (has_only (term_set ds only.0) n only.2))) [
      | inl is ↦ missing is
      | inr p ↦
          let below = p.1 in
          has_other xs ds a n p.0 k only.0 terms p.2 (omega (arith, below)) only.1 within all
          (only_in (term_set ds only.0) n (term_value a only.0) only.2 (term_within ds a only.0 (all_at (IsTermOf (length ds)) xs k only.0 terms only.1) within))
    ]

-- ---- how many aren't fixed

-- of the places before place k
pub record AreOpenBelow (xs : List Term) (ds : List (List (ℤ × ℤ))) (unfixed k : ℕ) : Type 0 where
  pub few : unfixed ≤ k
  pub none : unfixed ≡ 0 → (i : ℕ) (x : Term) → i < k → slice_get xs i ≡ Some x → IsFixedIn ds x
  pub one : unfixed ≤ 1 → (i j : ℕ) (x y : Term) → i < k → j < k → i ≢ j → slice_get xs i ≡ Some x → slice_get xs j ≡ Some y → IsFixedIn ds x ⊎ IsFixedIn ds y
  pub some : 0 < unfixed → AllFixed ds xs → ⊥

pub open_first : (xs : List Term) (ds : List (List (ℤ × ℤ))) → AreOpenBelow xs ds 0 0
open_first xs ds = record {
  few = omega arith;
  none = λ e i x below. absurd (omega (arith, below));
  one = λ e i j x y below. absurd (omega (arith, below));
  some = λ more. absurd (omega (arith, more));
}

pub open_passed : (xs : List Term) (ds : List (List (ℤ × ℤ))) (unfixed k : ℕ) (z : Term) → slice_get xs k ≡ Some z → IsFixedIn ds z → AreOpenBelow xs ds unfixed k
    → AreOpenBelow xs ds unfixed (k + 1)
open_passed xs ds unfixed k z at fixed h =
    let here : (i : ℕ) (x : Term) → slice_get xs i ≡ Some x → i ≡ k → IsFixedIn ds x = λ i x at_i e.
    subst (IsFixedIn ds) (same_term xs k z x at (subst (λ (q : ℕ). slice_get xs q ≡ Some x) e at_i)) fixed in
    record {
      few = (let few = h.few in omega (arith, few));
      none = λ e i x below at_i. elim (cases_eq i k) [ inl same ↦ here i x at_i same | inr ne ↦ h.none e i x (omega (arith, below, ne)) at_i ];
      one = λ e i j x y below_i below_j other at_i at_j. elim (cases_eq i k) [
        | inl same ↦ inl (here i x at_i same)
        | inr ne ↦ elim (cases_eq j k) [
          | inl same ↦ inr (here j y at_j same)
          | inr nf ↦ h.one e i j x y (omega (arith, below_i, ne)) (omega (arith, below_j, nf)) other at_i at_j
        ]
      ];
      some = h.some;
    }

pub open_more : (xs : List Term) (ds : List (List (ℤ × ℤ))) (unfixed k : ℕ) (z : Term) → slice_get xs k ≡ Some z → (IsFixedIn ds z → ⊥) → AreOpenBelow xs ds unfixed k
    → AreOpenBelow xs ds (unfixed + 1) (k + 1)
open_more xs ds unfixed k z at open_ h = record {
  few = (let few = h.few in omega (arith, few));
  none = λ e. absurd (omega (arith, e));
  one = λ e i j x y below_i below_j other at_i at_j.
      let none : unfixed ≡ 0 = omega (arith, e) in
      elim (cases_eq i k) [
        | inl same ↦ inr (h.none none j y (let ne : j ≢ k = λ f. other (same ∙ sym f) in omega (arith, below_j, ne)) at_j)
        | inr ne ↦ inl (h.none none i x (omega (arith, below_i, ne)) at_i)
      ];
  some = λ more fixed. open_ (all_at (IsFixedIn ds) xs k z fixed at);
}

each_fixed : (xs : List Term) (ds : List (List (ℤ × ℤ))) → ((i : ℕ) (x : Term) → slice_get xs i ≡ Some x → IsFixedIn ds x) → AllFixed ds xs
each_fixed [] ds fixed = tt
each_fixed (x ∷ xs) ds fixed = (fixed 0 x refl, each_fixed xs ds (λ i y at. fixed (suc i) y at))

pub open_all : (xs : List Term) (ds : List (List (ℤ × ℤ))) (unfixed k : ℕ) → length xs ≤ k → AreOpenBelow xs ds unfixed k → AreOpen xs ds unfixed
open_all xs ds unfixed k end h =
    let below : (i : ℕ) (x : Term) → slice_get xs i ≡ Some x → i < k = λ i x at. (let inside = slice_get_within xs i x at in omega (arith, end, inside)) in
    record {
      none = λ e. each_fixed xs ds (λ i x at. h.none e i x (below i x at) at);
      one = λ e i j x y other at_i at_j. h.one e i j x y (below i x at_i) (below j y at_j) other at_i at_j;
      some = h.some;
    }

pub none_here : (xs : List Term) (ds : List (List (ℤ × ℤ))) (k : ℕ) (z : Term) → slice_get xs k ≡ Some z → ((n : ℤ) → IsOnly (term_set ds z) n → ⊥) → (n : ℤ) → IsOnlyAt xs ds k n → ⊥
none_here xs ds k z at none n only = none n (subst (λ (t : Term). IsOnly (term_set ds t) n) (same_term xs k only.0 z only.1 at) only.2)
