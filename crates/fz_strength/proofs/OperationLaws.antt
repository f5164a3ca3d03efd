-- The line of an equation: it lasts while the ends of its terms stay, and says the truth where one number is left of each.
use Rattle.std.proofs.Common.{◌≡◌, ◌≢◌, List, [], ◌∷◌, true, false, refl, sym, ap, subst, arith, map, inl, inr, length}
use Rattle.std.specs.Prelude.{ℤ, pos, negsuc, nat_abs, neg_ℤ, ◌+ℤ◌, ◌*ℤ◌, ◌≤ℤ◌, int_div, int_lt, if◌then◌else◌, ◌⊎◌, ◌&&◌}
use Rattle.std.specs.Int.{int_min, int_max}
use Rattle.std.specs.List.{AllByRecursion, fold}
use Rattle.std.specs.Ordering.{int_eq}
use Rattle.std.proofs.lemmas.Bool.Decides.{Decides-int_eq}
use Rattle.fz_sets.specs.Sets.{IsInSet}
use Rattle.std.proofs.lemmas.Int.{ints, clamps, by_lt_z}
use Rattle.fz_dom.specs.Shape.{least, greatest}
use Rattle.fz_spec.specs.declared.term.Term.{Term}
use Rattle.fz_spec.specs.Constraints.{term_value, term_values}
use Rattle.fz_spec.specs.Truth.{IsLeastOf, IsGreatestOf, IsResult, remainder}
use Rattle.fz_strength.specs.declared.event.Event.TheVariants.{Bound}
use Rattle.fz_spec.specs.declared.shape.Operation.{Operation}
use Rattle.fz_spec.specs.declared.shape.Operation.TheVariants.{Plus, Times, Quotient, Remainder, Abs, Min, Max}
use Rattle.fz_strength.specs.declared.bounds.Bounds.{Bounds}
use Rattle.fz_strength.specs.Domains.{term_set, IsNarrower}
use Rattle.fz_strength.specs.Events.{IsQuiet, IsOnly, AreSingle, wait_for, waits_for}
use Rattle.fz_strength.specs.Operations.{Equation, equation_terms, EquationTruth, low_of, high_of, between, no_bounds, own_bounds, corner_bounds, quotient_bounds, remainder_bounds, divisors_of, LacksZero, result_bounds, operand_bounds, bounds_of, IsBounded, IsEquationLine, operand_event, arithmetic}
use Rattle.fz_strength.proofs.Clauses.{all_with, all_unmap}
use Rattle.fz_strength.proofs.Terms.{AreQuietAt, term_narrower, in_single, quiet_self, Quiet, Below, terms_quiet, term_quiet, terms_alone, term_alone, wait_below, waits_below}
use Rattle.fz_sets.proofs.Lists.{all_left, all_right, all_both}
use Rattle.fz_strength.specs.Meanings.{IsLawful}

-- ---- it lasts

lows_same : (ds es : List (List (ℤ × ℤ))) (ts : List Term) → AreQuietAt Bound ds es ts → map (low_of ds) ts ≡ map (low_of es) ts
lows_same ds es [] quiet = refl
lows_same ds es (t ∷ ts) quiet = rw (quiet.0.0, lows_same ds es ts quiet.1) refl

highs_same : (ds es : List (List (ℤ × ℤ))) (ts : List Term) → AreQuietAt Bound ds es ts → map (high_of ds) ts ≡ map (high_of es) ts
highs_same ds es [] quiet = refl
highs_same ds es (t ∷ ts) quiet = rw (quiet.0.1, highs_same ds es ts quiet.1) refl

any_is_bound : (d e : List (ℤ × ℤ)) → d ≡ e → IsQuiet Bound d e
any_is_bound d e same = rw same (quiet_self Bound e)

bound_quiet : (operation : Operation) (ds es : List (List (ℤ × ℤ))) (t : Term) → IsQuiet (operand_event operation) (term_set ds t) (term_set es t) → IsQuiet Bound (term_set ds t) (term_set es t)
bound_quiet Abs ds es t quiet = any_is_bound (term_set ds t) (term_set es t) quiet
bound_quiet operation ds es t quiet = quiet

bounds_quiet : (operation : Operation) (ds es : List (List (ℤ × ℤ))) (ts : List Term) → AreQuietAt (operand_event operation) ds es ts → AreQuietAt Bound ds es ts
bounds_quiet operation ds es [] quiet = tt
bounds_quiet operation ds es (t ∷ ts) quiet = (bound_quiet operation ds es t quiet.0, bounds_quiet operation ds es ts quiet.1)

result_same : (operation : Operation) (xs : List Term) (z : Term) (ds es : List (List (ℤ × ℤ))) → IsQuiet Bound (term_set ds z) (term_set es z) → AreQuietAt (operand_event operation) ds es xs
    → result_bounds operation xs z ds ≡ result_bounds operation xs z es
result_same Plus (x ∷ y ∷ []) z ds es at quiet = rw (quiet.0.0, quiet.0.1, quiet.1.0.0, quiet.1.0.1) refl
result_same Times (x ∷ y ∷ []) z ds es at quiet = rw (quiet.0.0, quiet.0.1, quiet.1.0.0, quiet.1.0.1) refl
result_same Quotient (x ∷ y ∷ []) z ds es at quiet = rw (quiet.0.0, quiet.0.1, quiet.1.0.0, quiet.1.0.1, at.0, at.1) refl
result_same Remainder (x ∷ y ∷ []) z ds es at quiet = rw (quiet.0.0, quiet.0.1, quiet.1.0.0, quiet.1.0.1, at.0, at.1) refl
result_same Abs (x ∷ []) z ds es at quiet = rw quiet.0 refl
result_same Min (x ∷ xs) z ds es at quiet = rw (quiet.0.0, quiet.0.1, lows_same ds es xs quiet.1, highs_same ds es xs quiet.1) refl
result_same Max (x ∷ xs) z ds es at quiet = rw (quiet.0.0, quiet.0.1, lows_same ds es xs quiet.1, highs_same ds es xs quiet.1) refl
result_same operation xs z ds es at quiet = refl

min_same : (xs : List Term) (z : Term) (ds es : List (List (ℤ × ℤ))) → IsQuiet Bound (term_set ds z) (term_set es z) → AreQuietAt Bound ds es xs
    → operand_bounds Min xs z ds ≡ operand_bounds Min xs z es
min_same [] z ds es at quiet = refl
min_same (x ∷ xs) z ds es at quiet = rw (at.0, quiet.0.1, min_same xs z ds es at quiet.1) refl

max_same : (xs : List Term) (z : Term) (ds es : List (List (ℤ × ℤ))) → IsQuiet Bound (term_set ds z) (term_set es z) → AreQuietAt Bound ds es xs
    → operand_bounds Max xs z ds ≡ operand_bounds Max xs z es
max_same [] z ds es at quiet = refl
max_same (x ∷ xs) z ds es at quiet = rw (at.1, quiet.0.0, max_same xs z ds es at quiet.1) refl

operands_same : (operation : Operation) (xs : List Term) (z : Term) (ds es : List (List (ℤ × ℤ))) → IsQuiet Bound (term_set ds z) (term_set es z) → AreQuietAt Bound ds es xs
    → operand_bounds operation xs z ds ≡ operand_bounds operation xs z es
operands_same Plus (x ∷ y ∷ []) z ds es at quiet = rw (quiet.0.0, quiet.0.1, quiet.1.0.0, quiet.1.0.1, at.0, at.1) refl
operands_same Times (x ∷ y ∷ []) z ds es at quiet = rw (quiet.0.0, quiet.0.1, quiet.1.0.0, quiet.1.0.1, at.0, at.1) refl
operands_same Quotient (x ∷ y ∷ []) z ds es at quiet = rw (quiet.0.0, quiet.0.1, quiet.1.0.0, quiet.1.0.1) refl
operands_same Remainder (x ∷ y ∷ []) z ds es at quiet = rw (quiet.0.0, quiet.0.1, quiet.1.0.0, quiet.1.0.1) refl
operands_same Abs (x ∷ []) z ds es at quiet = rw (quiet.0.0, quiet.0.1, at.0, at.1) refl
operands_same Min xs z ds es at quiet = min_same xs z ds es at quiet
operands_same Max xs z ds es at quiet = max_same xs z ds es at quiet
operands_same operation xs z ds es at quiet = refl

-- the bounds are those of its terms
quotient_term : (x y z : Term) (ds : List (List (ℤ × ℤ))) → (quotient_bounds x y z ds).term ≡ x
quotient_term x y z ds = elim (int_lt (pos 0) (low_of ds y)) as (λ b. (if b then corner_bounds int_div z y x ds else (if int_lt (high_of ds y) (pos 0) then corner_bounds int_div z y x ds else own_bounds x ds)).term ≡ x) [
  | true ↦ refl
  | false ↦ elim (int_lt (high_of ds y) (pos 0)) as (λ b. (if b then corner_bounds int_div z y x ds else own_bounds x ds).term ≡ x) [ true ↦ refl | false ↦ refl ]
]

remainder_term : (x y z : Term) (ds : List (List (ℤ × ℤ))) → (remainder_bounds x y z ds).term ≡ z
remainder_term x y z ds =
    let v = remainder (low_of ds x) (low_of ds y) in
    elim (int_eq (low_of ds x) (high_of ds x) && int_eq (low_of ds y) (high_of ds y)) as (λ b. (if b then between z v v else own_bounds z ds).term ≡ z) [ true ↦ refl | false ↦ refl ]

mapped_terms : (f : Term → Bounds) (xs : List Term) → ((x : Term) → (f x).term ≡ x) → map (λ (b : Bounds). b.term) (map f xs) ≡ xs
mapped_terms f [] at = refl
mapped_terms f (x ∷ xs) at = rw (at x, mapped_terms f xs at) refl

result_term : (operation : Operation) (xs : List Term) (z : Term) (ds : List (List (ℤ × ℤ))) → (result_bounds operation xs z ds).term ≡ z
result_term Plus (x ∷ y ∷ []) z ds = refl
result_term Times (x ∷ y ∷ []) z ds = refl
result_term Quotient (x ∷ y ∷ []) z ds = quotient_term z y x ds
result_term Remainder (x ∷ y ∷ []) z ds = remainder_term x y z ds
result_term Abs (x ∷ []) z ds = refl
result_term Min (x ∷ xs) z ds = refl
result_term Max (x ∷ xs) z ds = refl
result_term operation xs z ds = refl

operand_terms : (operation : Operation) (xs : List Term) (z : Term) (ds : List (List (ℤ × ℤ))) → map (λ (b : Bounds). b.term) (operand_bounds operation xs z ds) ≡ xs
operand_terms Plus (x ∷ y ∷ []) z ds = refl
operand_terms Times (x ∷ y ∷ []) z ds = rw (quotient_term x y z ds, quotient_term y x z ds) refl
operand_terms Quotient (x ∷ y ∷ []) z ds = refl
operand_terms Remainder (x ∷ y ∷ []) z ds = refl
operand_terms Abs (x ∷ []) z ds = refl
operand_terms Min xs z ds = mapped_terms (λ x. between x (low_of ds z) (high_of ds x)) xs (λ x. refl)
operand_terms Max xs z ds = mapped_terms (λ x. between x (low_of ds x) (high_of ds z)) xs (λ x. refl)
operand_terms operation xs z ds = mapped_terms no_bounds xs (λ x. refl)

pub bounds_terms : (e : Equation) (ds : List (List (ℤ × ℤ))) → map (λ (b : Bounds). b.term) (bounds_of e ds) ≡ equation_terms e
bounds_terms e ds = rw (result_term e.operation e.operands e.result ds, operand_terms e.operation e.operands e.result ds) refl

bounded_still : (ds es : List (List (ℤ × ℤ))) (b : Bounds) → IsQuiet Bound (term_set ds b.term) (term_set es b.term) → IsBounded ds b → IsBounded es b
bounded_still ds es b quiet h = rw (← quiet.0, ← quiet.1) h

zero_lacking : (ds es : List (List (ℤ × ℤ))) (ts : List Term) → IsNarrower ds es → AllByRecursion (LacksZero ds) ts → AllByRecursion (LacksZero es) ts
zero_lacking ds es [] narrower all = tt
zero_lacking ds es (t ∷ ts) narrower all = ((λ is. all.0 (term_narrower t ds es narrower (pos 0) is)), zero_lacking ds es ts narrower all.1)

pub equation_kept : (e : Equation) (ds es : List (List (ℤ × ℤ))) → IsNarrower ds es → IsQuiet Bound (term_set ds e.result) (term_set es e.result) → AreQuietAt (operand_event e.operation) ds es e.operands
    → IsEquationLine e ds → IsEquationLine e es
equation_kept e ds es narrower of_result of_operands line =
    let quiet : AreQuietAt Bound ds es (equation_terms e) = (of_result, bounds_quiet e.operation ds es e.operands of_operands) in
    let calm : Term → Type 0 = λ (t : Term). IsQuiet Bound (term_set ds t) (term_set es t) in
    let at_each = all_unmap calm (λ (b : Bounds). b.term) (bounds_of e ds) (subst (AllByRecursion calm) (sym (bounds_terms e ds)) quiet) in
    let still = all_with (λ (b : Bounds). calm b.term) (IsBounded ds) (IsBounded es) (bounds_of e ds) (bounded_still ds es) at_each line.bounded in
    let same : bounds_of e ds ≡ bounds_of e es =
    rw (result_same e.operation e.operands e.result ds es of_result of_operands, operands_same e.operation e.operands e.result ds es quiet.0 quiet.1) refl in
    record { bounded = subst (AllByRecursion (IsBounded es)) same still; divides = zero_lacking ds es (divisors_of e.operation e.operands) narrower line.divides }

-- ---- the least and the greatest of numbers

min_is : (x y m : ℤ) → int_min x y ≡ m → (x ≡ m) ⊎ (y ≡ m)
min_is x y m is = by_lt_z x y (λ below. inl (omega (arith, ints, clamps, below, is))) (λ above. inr (omega (arith, ints, clamps, above, is)))

max_is : (x y m : ℤ) → int_max x y ≡ m → (x ≡ m) ⊎ (y ≡ m)
max_is x y m is = by_lt_z x y (λ below. inr (omega (arith, ints, clamps, below, is))) (λ above. inl (omega (arith, ints, clamps, above, is)))

pub least_is : (x : ℤ) (xs : List ℤ) → IsLeastOf (fold int_min x xs) (x ∷ xs)
least_is x [] = (inl refl, (omega (arith, ints), tt))
least_is x (y ∷ ys) =
    let m = fold int_min (int_min x y) ys in
    let h = least_is (int_min x y) ys in
    let low : m ≤ℤ int_min x y = h.1.0 in (
      elim h.0 [
        | inl e ↦ elim (min_is x y m e) [ inl at ↦ inl at | inr at ↦ inr (inl at) ]
        | inr there ↦ inr (inr there)
      ],
      (omega (arith, ints, clamps, low), (omega (arith, ints, clamps, low), h.1.1)),
    )

pub greatest_is : (x : ℤ) (xs : List ℤ) → IsGreatestOf (fold int_max x xs) (x ∷ xs)
greatest_is x [] = (inl refl, (omega (arith, ints), tt))
greatest_is x (y ∷ ys) =
    let m = fold int_max (int_max x y) ys in
    let h = greatest_is (int_max x y) ys in
    let high : int_max x y ≤ℤ m = h.1.0 in (
      elim h.0 [
        | inl e ↦ elim (max_is x y m e) [ inl at ↦ inl at | inr at ↦ inr (inl at) ]
        | inr there ↦ inr (inr there)
      ],
      (omega (arith, ints, clamps, high), (omega (arith, ints, clamps, high), h.1.1)),
    )

-- ---- where one number is left of each term

lows_alone : (ds : List (List (ℤ × ℤ))) (a : List ℤ) (ts : List Term) → AreSingle ds a ts → map (low_of ds) ts ≡ term_values a ts
lows_alone ds a [] alone = refl
lows_alone ds a (t ∷ ts) alone = rw (ap least alone.0, lows_alone ds a ts alone.1) refl

highs_alone : (ds : List (List (ℤ × ℤ))) (a : List ℤ) (ts : List Term) → AreSingle ds a ts → map (high_of ds) ts ≡ term_values a ts
highs_alone ds a [] alone = refl
highs_alone ds a (t ∷ ts) alone = rw (ap greatest alone.0, highs_alone ds a ts alone.1) refl

squeezed : (x y : ℤ) → x ≤ℤ y → y ≤ℤ x → x ≡ y
squeezed x y low high = omega (arith, ints, low, high)

none_between : (z : ℤ) → pos 1 ≤ℤ z → z ≤ℤ pos 0 → ⊥
none_between z low high = omega (arith, ints, low, high)

-- the absolute value is the greater of a number and its negative
abs_is : (x z : ℤ) → int_max (pos 0) (int_max x (neg_ℤ x)) ≤ℤ z → z ≤ℤ int_max x (neg_ℤ x) → z ≡ pos (nat_abs x)
abs_is (pos n) z low high = omega (arith, ints, clamps, low, high)
abs_is (negsuc n) z low high = omega (arith, ints, clamps, low, high)

corner_alone : (p z : ℤ) → fold int_min p (p ∷ p ∷ p ∷ []) ≤ℤ z → z ≤ℤ fold int_max p (p ∷ p ∷ p ∷ []) → p ≡ z
corner_alone p z low high = omega (arith, ints, clamps, low, high)

not_zero_alone : (ds : List (List (ℤ × ℤ))) (a : List ℤ) (y : Term) → IsOnly (term_set ds y) (term_value a y) → LacksZero ds y → term_value a y ≢ pos 0
not_zero_alone ds a y only lacks = λ zero. lacks (subst (λ (d : List (ℤ × ℤ)). IsInSet d (pos 0)) (sym only) (in_single (pos 0) (term_value a y) (sym zero)))

is_zero : (low high w : ℤ) → low ≡ w → high ≡ w → int_lt (pos 0) low ≡ false → int_lt high (pos 0) ≡ false → w ≡ pos 0
is_zero low high w at_low at_high above below = omega (arith, ints, at_low, at_high, above, below)

quotient_alone : (u w v : ℤ) (ds : List (List (ℤ × ℤ))) (x y z : Term) → IsOnly (term_set ds x) u → IsOnly (term_set ds y) w → IsOnly (term_set ds z) v → w ≢ pos 0
    → IsBounded ds (quotient_bounds z y x ds) → int_div u w ≡ v
quotient_alone u w v ds x y z of_x of_y of_z not_zero h =
    let corner : IsBounded ds (corner_bounds int_div x y z ds) → int_div u w ≡ v = λ k.
    (let b = rw (ap least of_z, ap greatest of_z, ap least of_x, ap greatest of_x, ap least of_y, ap greatest of_y) at k in corner_alone (int_div u w) v b.0 b.1) in
    (elim (int_lt (pos 0) (low_of ds y)) as (λ b. int_lt (pos 0) (low_of ds y) ≡ b
    → IsBounded ds (if b then corner_bounds int_div x y z ds else (if int_lt (high_of ds y) (pos 0) then corner_bounds int_div x y z ds else own_bounds z ds)) → int_div u w ≡ v) [
      | true ↦ λ e k. corner k
      | false ↦ λ e k. (elim (int_lt (high_of ds y) (pos 0)) as (λ b. int_lt (high_of ds y) (pos 0) ≡ b
          → IsBounded ds (if b then corner_bounds int_div x y z ds else own_bounds z ds) → int_div u w ≡ v) [
            | true ↦ λ f l. corner l
            | false ↦ λ f l. absurd (not_zero (is_zero (low_of ds y) (high_of ds y) w (ap least of_y) (ap greatest of_y) e f))
          ]) refl k
    ]) refl h

eq_self : (x : ℤ) → int_eq x x ≡ true
eq_self x = (Decides-int_eq x x).1 refl

remainder_alone : (u w v : ℤ) (ds : List (List (ℤ × ℤ))) (x y z : Term) → IsOnly (term_set ds x) u → IsOnly (term_set ds y) w → IsOnly (term_set ds z) v
    → IsBounded ds (remainder_bounds x y z ds) → remainder u w ≡ v
remainder_alone u w v ds x y z of_x of_y of_z h =
    let r = remainder (low_of ds x) (low_of ds y) in
    let both : (int_eq (low_of ds x) (high_of ds x) && int_eq (low_of ds y) (high_of ds y)) ≡ true = rw (ap least of_x, ap greatest of_x, ap least of_y, ap greatest of_y, eq_self u, eq_self w) refl in
    (elim (int_eq (low_of ds x) (high_of ds x) && int_eq (low_of ds y) (high_of ds y)) as (λ b. (int_eq (low_of ds x) (high_of ds x) && int_eq (low_of ds y) (high_of ds y)) ≡ b
    → IsBounded ds (if b then between z r r else own_bounds z ds) → remainder u w ≡ v) [
      | true ↦ λ e k. (let b = rw (ap least of_z, ap greatest of_z, ap least of_x, ap least of_y) at k in squeezed (remainder u w) v b.0 b.1)
      | false ↦ λ e k. absurd (cc (both, e))
    ]) refl h

result_alone : (operation : Operation) (xs : List Term) (z : Term) (ds : List (List (ℤ × ℤ))) (a : List ℤ) → AreSingle ds a xs → IsOnly (term_set ds z) (term_value a z)
    → AllByRecursion (LacksZero ds) (divisors_of operation xs) → IsBounded ds (result_bounds operation xs z ds) → IsResult operation (term_values a xs) (term_value a z)
result_alone Plus (x ∷ y ∷ []) z ds a alone only apart h =
    let b = rw (ap least only, ap greatest only, ap least alone.0, ap greatest alone.0, ap least alone.1.0, ap greatest alone.1.0) at h in
    squeezed (term_value a x +ℤ term_value a y) (term_value a z) b.0 b.1
result_alone Times (x ∷ y ∷ []) z ds a alone only apart h =
    let b = rw (ap least only, ap greatest only, ap least alone.0, ap greatest alone.0, ap least alone.1.0, ap greatest alone.1.0) at h in
    corner_alone (term_value a x *ℤ term_value a y) (term_value a z) b.0 b.1
result_alone Quotient (x ∷ y ∷ []) z ds a alone only apart h =
    let not_zero = not_zero_alone ds a y alone.1.0 apart.0 in (not_zero, quotient_alone (term_value a x) (term_value a y) (term_value a z) ds x y z alone.0 alone.1.0 only not_zero h)
result_alone Remainder (x ∷ y ∷ []) z ds a alone only apart h =
    (not_zero_alone ds a y alone.1.0 apart.0, remainder_alone (term_value a x) (term_value a y) (term_value a z) ds x y z alone.0 alone.1.0 only h)
result_alone Abs (x ∷ []) z ds a alone only apart h =
    let b = rw (ap least only, ap greatest only, alone.0) at h in
    abs_is (term_value a x) (term_value a z) b.0 b.1
result_alone Min (x ∷ xs) z ds a alone only apart h =
    let b = rw (ap least only, ap greatest only, ap least alone.0, ap greatest alone.0, lows_alone ds a xs alone.1, highs_alone ds a xs alone.1) at h in
    let m = fold int_min (term_value a x) (term_values a xs) in
    subst (λ (n : ℤ). IsLeastOf n (term_value a x ∷ term_values a xs)) (squeezed m (term_value a z) b.0 b.1) (least_is (term_value a x) (term_values a xs))
result_alone Max (x ∷ xs) z ds a alone only apart h =
    let b = rw (ap least only, ap greatest only, ap least alone.0, ap greatest alone.0, lows_alone ds a xs alone.1, highs_alone ds a xs alone.1) at h in
    let m = fold int_max (term_value a x) (term_values a xs) in
    subst (λ (n : ℤ). IsGreatestOf n (term_value a x ∷ term_values a xs)) (squeezed m (term_value a z) b.0 b.1) (greatest_is (term_value a x) (term_values a xs))
result_alone operation xs z ds a alone only apart h =
    let b = rw (ap least only, ap greatest only) at h in absurd (none_between (term_value a z) b.0 b.1)

pub equation_alone : (e : Equation) (ds : List (List (ℤ × ℤ))) (a : List ℤ) → AreSingle ds a (equation_terms e) → IsEquationLine e ds → EquationTruth e a
equation_alone e ds a alone line = result_alone e.operation e.operands e.result ds a alone.1 alone.0 line.divides line.bounded.0

-- ---- what it means

pub arithmetic_lawful : (e : Equation) → IsLawful (arithmetic e)
arithmetic_lawful e = record {
  kept = λ ds es domains narrower quiet h. (
      let operands = waits_for (operand_event e.operation) e.operands in
      equation_kept e ds es narrower (term_quiet Bound e.result ds es (all_left (Quiet ds es) (wait_for Bound e.result) operands quiet))
      (terms_quiet (operand_event e.operation) e.operands ds es (all_right (Quiet ds es) (wait_for Bound e.result) operands quiet)) h);
  alone = λ ds a below alone h. (
      let operands = waits_for (operand_event e.operation) e.operands in
      equation_alone e ds a (
        term_alone ds a Bound e.result (all_left (Below (length ds)) (wait_for Bound e.result) operands below) alone,
        terms_alone (operand_event e.operation) e.operands ds a (all_right (Below (length ds)) (wait_for Bound e.result) operands below) alone,
      ) h);
  below = λ n all. all_both (Below n) (wait_for Bound e.result) (waits_for (operand_event e.operation) e.operands) (wait_below Bound e.result n all.0) (waits_below (operand_event e.operation) e.operands n all.1);
}
