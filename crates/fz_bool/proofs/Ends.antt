-- Parities of the terms at both ends of a list, and what is left between these.
use Rattle.std.proofs.Common.{◌≡◌, ℕ, zero, suc, ◌≤◌, ◌+◌, ◌-◌, ◌%◌, List, [], ◌∷◌, ◌∙◌, refl, sym, ap, subst, arith, length, take, drop}
use Rattle.std.specs.Prelude.{ℤ, pos, Bool, true, false, Some, ◌↔◌, IsTrue, count_by, slice_get}
use Rattle.std.proofs.lemmas.Int.{ints}
use Rattle.fz_sets.proofs.Lists.{some_is}
use Rattle.fz_spec.specs.declared.term.Term.{Term}
use Rattle.fz_spec.specs.Constraints.{term_value, term_values}
use Rattle.fz_spec.specs.Truth.{is_one}
use Rattle.fz_strength.specs.Domains.{Within, IsTermOf}
use Rattle.fz_strength.specs.Events.{IsFixedIn}
use Rattle.fz_strength.specs.Clauses.{positive, IsTrueIn, IsUntrueIn}
use Rattle.fz_prop.specs.Told.{AreEndsOdd}
use Rattle.fz_bool.specs.Parity.{flip, is_odd, turned, OddTruth, IsOpenAt, IsLastTerm}
use Rattle.fz_bool.proofs.Odd.{flips, odd_more, bit_true, bit_false}
use Rattle.fz_bool.proofs.Parities.{bit, by_bit, odd_count}

-- ---- parts of lists

flips_both : (b c d : Bool) → flip (flip b c) d ≡ flip b (flip c d)
flips_both false c d = refl
flips_both true false d = refl
flips_both true true false = refl
flips_both true true true = refl

odd_parts : (a : List ℤ) (ts : List Term) (n : ℕ) → is_odd (term_values a ts) ≡ flip (is_odd (term_values a (take n ts))) (is_odd (term_values a (drop n ts)))
odd_parts a [] zero = refl
odd_parts a [] (suc n) = refl
odd_parts a (t ∷ ts) zero = refl
odd_parts a (t ∷ ts) (suc n) =
    let one = is_one (term_value a t) in ap (flip one) (odd_parts a ts n) ∙ sym (flips_both one (is_odd (term_values a (take n ts))) (is_odd (term_values a (drop n ts))))

odd_from : (a : List ℤ) (ts : List Term) (n : ℕ) (t : Term) → slice_get ts n ≡ Some t → is_odd (term_values a (drop n ts)) ≡ flip (is_one (term_value a t)) (is_odd (term_values a (drop (suc n) ts)))
odd_from a [] n t at = absurd (cc (at))
odd_from a (u ∷ us) zero t at = ap (λ (v : Term). flip (is_one (term_value a v)) (is_odd (term_values a us))) (some_is u t at)
odd_from a (u ∷ us) (suc n) t at = odd_from a us n t at

-- ---- both ends

-- whether an odd number of the terms at the ends are 1
abbrev ends : List ℤ → List Term → ℕ → ℕ → Bool
ends a ts front back = flip (is_odd (term_values a (take front ts))) (is_odd (term_values a (drop (length ts - back) ts)))

two_counts : (b c : Bool) (m n : ℕ) → m % 2 ≡ bit b → n % 2 ≡ bit c → (m + n) % 2 ≡ bit (flip b c)
two_counts false false m n p q = omega (arith, p, q)
two_counts false true m n p q = omega (arith, p, q)
two_counts true false m n p q = omega (arith, p, q)
two_counts true true m n p q = omega (arith, p, q)

counts : (xs ys : List ℤ) → pos ((count_by is_one xs + count_by is_one ys) % 2) ≡ pos (bit (flip (is_odd xs) (is_odd ys)))
counts xs ys = ap (λ (n : ℕ). pos n) (two_counts (is_odd xs) (is_odd ys) (count_by is_one xs) (count_by is_one ys) (odd_count xs) (odd_count ys))

-- the parity of the ends is the number, and the other way round
ends_number : (ts : List Term) (front back : ℕ) (number : ℤ) (ds : List (List (ℤ × ℤ))) → AreEndsOdd ts front back number ds → (a : List ℤ) → Within ds a → pos (bit (ends a ts front back)) ≡ number
ends_number ts front back number ds told a within = sym (counts (term_values a (take front ts)) (term_values a (drop (length ts - back) ts))) ∙ told.odd a within

ends_odd : (ts : List Term) (front back : ℕ) (number : ℤ) (ds : List (List (ℤ × ℤ))) → front + back ≤ length ts → ((a : List ℤ) → Within ds a → pos (bit (ends a ts front back)) ≡ number)
    → AreEndsOdd ts front back number ds
ends_odd ts front back number ds inside is = record {
  inside = inside;
  odd = λ a within. counts (term_values a (take front ts)) (term_values a (drop (length ts - back) ts)) ∙ is a within;
}

-- ---- one more is passed

abbrev after : Bool → ℤ → ℤ
after false number = number
after true number = turned number

with_one : (b odd : Bool) (number : ℤ) → pos (bit odd) ≡ number → pos (bit (flip b odd)) ≡ after b number
with_one false odd number is = is
with_one true false number is = rw (← is) refl
with_one true true number is = rw (← is) refl

front_more : (b : Bool) (ts : List Term) (front back : ℕ) (number : ℤ) (t : Term) (ds : List (List (ℤ × ℤ))) → slice_get ts front ≡ Some t → front + 1 + back ≤ length ts
    → ((a : List ℤ) → Within ds a → is_one (term_value a t) ≡ b) → AreEndsOdd ts front back number ds → AreEndsOdd ts (front + 1) back (after b number) ds
front_more b ts front back number t ds at inside one told = ends_odd ts (front + 1) back (after b number) ds inside (λ a within.
    let p = is_odd (term_values a (take front ts)) in
    let q = is_odd (term_values a (drop (length ts - back) ts)) in
    ap (λ (o : Bool). pos (bit (flip o q))) (odd_more a ts front t at ∙ ap (λ (c : Bool). flip c p) (one a within))
    ∙ ap (λ (o : Bool). pos (bit o)) (flips_both b p q) ∙ with_one b (flip p q) number (ends_number ts front back number ds told a within))

back_more : (b : Bool) (ts : List Term) (front back place : ℕ) (number : ℤ) (t : Term) (ds : List (List (ℤ × ℤ))) → slice_get ts place ≡ Some t → place + 1 + back ≡ length ts → front + back + 1 ≤ length ts
    → ((a : List ℤ) → Within ds a → is_one (term_value a t) ≡ b) → AreEndsOdd ts front back number ds → AreEndsOdd ts front (back + 1) (after b number) ds
back_more b ts front back place number t ds at here inside one told =
    let is_place : length ts - (back + 1) ≡ place = omega (arith, here) in
    let is_next : length ts - back ≡ suc place = omega (arith, here) in
    ends_odd ts front (back + 1) (after b number) ds (omega (arith, inside)) (λ a within.
    let p = is_odd (term_values a (take front ts)) in
    let q = is_odd (term_values a (drop (suc place) ts)) in
    let before : pos (bit (flip p q)) ≡ number = rw (is_next) at (ends_number ts front back number ds told a within) in
    rw is_place
    (ap (λ (o : Bool). pos (bit (flip p o))) (odd_from a ts place t at ∙ ap (λ (c : Bool). flip c q) (one a within))
    ∙ ap (λ (o : Bool). pos (bit o)) (flips p b q) ∙ with_one b (flip p q) number before))

pub front_true : (ts : List Term) (front back : ℕ) (number : ℤ) (t : Term) (ds : List (List (ℤ × ℤ))) → slice_get ts front ≡ Some t → IsTermOf (length ds) t → front + 1 + back ≤ length ts
    → IsTrueIn ds (positive t) → AreEndsOdd ts front back number ds → AreEndsOdd ts (front + 1) back (turned number) ds
front_true ts front back number t ds at is inside holds told = front_more true ts front back number t ds at inside (λ a within. bit_true ds t a is holds within) told

pub front_false : (ts : List Term) (front back : ℕ) (number : ℤ) (t : Term) (ds : List (List (ℤ × ℤ))) → slice_get ts front ≡ Some t → IsTermOf (length ds) t → front + 1 + back ≤ length ts
    → IsUntrueIn ds (positive t) → AreEndsOdd ts front back number ds → AreEndsOdd ts (front + 1) back number ds
front_false ts front back number t ds at is inside untrue told = front_more false ts front back number t ds at inside (λ a within. bit_false ds t a is untrue within) told

pub back_true : (ts : List Term) (front back place : ℕ) (number : ℤ) (t : Term) (ds : List (List (ℤ × ℤ))) → slice_get ts place ≡ Some t → IsTermOf (length ds) t → place + 1 + back ≡ length ts
    → front + back + 1 ≤ length ts → IsTrueIn ds (positive t) → AreEndsOdd ts front back number ds → AreEndsOdd ts front (back + 1) (turned number) ds
back_true ts front back place number t ds at is here inside holds told = back_more true ts front back place number t ds at here inside (λ a within. bit_true ds t a is holds within) told

pub back_false : (ts : List Term) (front back place : ℕ) (number : ℤ) (t : Term) (ds : List (List (ℤ × ℤ))) → slice_get ts place ≡ Some t → IsTermOf (length ds) t → place + 1 + back ≡ length ts
    → front + back + 1 ≤ length ts → IsUntrueIn ds (positive t) → AreEndsOdd ts front back number ds → AreEndsOdd ts front (back + 1) number ds
back_false ts front back place number t ds at is here inside untrue told = back_more false ts front back place number t ds at here inside (λ a within. bit_false ds t a is untrue within) told

pub open_at : (ds : List (List (ℤ × ℤ))) (ts : List Term) (i : ℕ) (t : Term) → slice_get ts i ≡ Some t → (IsFixedIn ds t → ⊥) → IsOpenAt ds ts i
open_at ds ts i t at unfixed = λ u here fixed. unfixed (subst (IsFixedIn ds) (some_is u t (sym here ∙ at)) fixed)

-- ---- the ends meet, or one term is between them

pos_is : (m n : ℕ) → pos m ≡ pos n → m ≡ n
pos_is m n is = omega (arith, ints, is)

by_number : (odd known : Bool) (number : ℤ) → pos (bit odd) ≡ number → (IsTrue known ↔ (number ≡ pos 1)) → odd ≡ known
by_number odd true number is says = by_bit odd (pos_is (bit odd) 1 (is ∙ says.0 refl))
by_number false false number is says = refl
by_number true false number is says = absurd (cc (says.1 (sym is)))

pub all_ends : (ts : List Term) (front back : ℕ) (number : ℤ) (known : Bool) (ds : List (List (ℤ × ℤ))) → length ts - front - back ≡ 0 → (IsTrue known ↔ (number ≡ pos 1))
    → AreEndsOdd ts front back number ds → (a : List ℤ) → Within ds a → OddTruth ts known a
all_ends ts front back number known ds none says told a within =
    let inside = told.inside in
    let meet : length ts - back ≡ front = omega (arith, inside, none) in
    let p = is_odd (term_values a (take front ts)) in
    let q = is_odd (term_values a (drop front ts)) in
    let here : pos (bit (flip p q)) ≡ number = rw meet at (ends_number ts front back number ds told a within) in
    odd_parts a ts front ∙ by_number (flip p q) known number here says

pub last_between : (ts : List Term) (front back : ℕ) (number : ℤ) (known : Bool) (t : Term) (ds : List (List (ℤ × ℤ))) → length ts - front - back ≡ 1 → (IsTrue known ↔ (number ≡ pos 1))
    → slice_get ts front ≡ Some t → (IsFixedIn ds t → ⊥) → AreEndsOdd ts front back number ds → IsLastTerm ds ts t known
last_between ts front back number known t ds one says at unfixed told =
    let inside = told.inside in
    let next : length ts - back ≡ suc front = omega (arith, inside, one) in
    record {
      place = front;
      at = at;
      unfixed = unfixed;
      sum = λ a within.
          let p = is_odd (term_values a (take front ts)) in
          let q = is_odd (term_values a (drop (suc front) ts)) in
          let here : pos (bit (flip p q)) ≡ number = rw next at (ends_number ts front back number ds told a within) in
          odd_parts a ts front ∙ ap (flip p) (odd_from a ts front t at) ∙ flips p (is_one (term_value a t)) q ∙ ap (flip (is_one (term_value a t))) (by_number (flip p q) known number here says);
    }
