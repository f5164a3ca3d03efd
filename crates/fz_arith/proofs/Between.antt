-- What makes an equation true lies between the bounds.
use Rattle.std.proofs.Common.{◌≡◌, ◌≢◌, List, [], ◌∷◌, refl, ◌∙◌, arith, length, map, inl, inr, Bool, true, false}
use Rattle.std.specs.Prelude.{ℤ, pos, negsuc, nat_abs, neg_ℤ, ◌+ℤ◌, ◌-ℤ◌, ◌*ℤ◌, ◌≤ℤ◌, ◌<ℤ◌, int_div, int_lt, if◌then◌else◌, ◌⊎◌, ◌&&◌}
use Rattle.std.specs.Int.{int_min, int_max}
use Rattle.std.specs.List.{AllByRecursion, fold}
use Rattle.std.specs.Ordering.{int_eq}
use Rattle.std.proofs.lemmas.Bool.Decides.{Decides-int_eq}
use Rattle.std.proofs.lemmas.Int.{ints}
use Rattle.std.proofs.Math.IntN.{*ℤ_comm}
use Rattle.fz_sets.specs.Sets.{IsInSet}
use Rattle.fz_dom.specs.Changes.{IsFromTo}
use Rattle.fz_dom.proofs.Ranges.{least_member, greatest_member}
use Rattle.fz_spec.specs.declared.term.Term.{Term}
use Rattle.fz_spec.specs.Constraints.{term_value, term_values}
use Rattle.fz_spec.specs.Truth.{SomeByRecursion, IsResult, remainder}
use Rattle.fz_spec.specs.declared.shape.Operation.{Operation}
use Rattle.fz_spec.specs.declared.shape.Operation.TheVariants.{Plus, Times, Quotient, Remainder, Abs, Min, Max}
use Rattle.fz_strength.specs.Domains.{term_set, AreDomains, Within, IsTermOf}
use Rattle.fz_strength.specs.Operations.{Equation, equation_terms, EquationTruth, low_of, high_of, between, own_bounds, corner_bounds, result_bounds, quotient_bounds, remainder_bounds, operand_bounds, bounds_of}
use Rattle.fz_strength.proofs.OperationLaws.{least_is, greatest_is}
use Rattle.fz_strength.proofs.Sizes.{least_below, greatest_above}
use Rattle.fz_prop.proofs.Filled.{HasRanges, term_ranges}
use Rattle.fz_prop.proofs.TermChanges.{term_within}
use Rattle.fz_arith.specs.Narrowing.{LiesBetween}
use Rattle.fz_arith.proofs.Quotients.{quotient_is, product_corners, quotient_corners}

-- ---- the numbers of an assignment lie between the ends of its terms

pub record IsSpanned (ds : List (List (ℤ × ℤ))) (a : List ℤ) (t : Term) : Type 0 where
  pub low : low_of ds t ≤ℤ term_value a t
  pub high : term_value a t ≤ℤ high_of ds t
  pub member : IsInSet (term_set ds t) (term_value a t)
  pub ranges : HasRanges (term_set ds t)

spanned : (ds : List (List (ℤ × ℤ))) (a : List ℤ) (t : Term) → AreDomains ds → Within ds a → IsTermOf (length ds) t → IsSpanned ds a t
spanned ds a t domains within is =
    let ranges = term_ranges ds t is domains in
    let member = term_within ds a t is within in
    record {
      low = (least_member (term_set ds t) ranges.some ranges.ranges).1 (term_value a t) member;
      high = (greatest_member (term_set ds t) ranges.some ranges.ranges).1 (term_value a t) member;
      member = member;
      ranges = ranges;
    }

pub all_spanned : (ds : List (List (ℤ × ℤ))) (a : List ℤ) (ts : List Term) → AreDomains ds → Within ds a → AllByRecursion (IsTermOf (length ds)) ts → AllByRecursion (IsSpanned ds a) ts
all_spanned ds a [] domains within are = tt
all_spanned ds a (t ∷ ts) domains within are = (spanned ds a t domains within are.0, all_spanned ds a ts domains within are.1)

-- ---- the result

-- each number of the one list is at most the one beside it in the other
abbrev AreBelow : (Term → ℤ) → (Term → ℤ) → List Term → Type 0
AreBelow f g ts = AllByRecursion (λ (t : Term). f t ≤ℤ g t) ts

reached : (f g : Term → ℤ) (ts : List Term) (p q : ℤ) → AreBelow f g ts → AllByRecursion (λ (x : ℤ). p ≤ℤ x) (map f ts) → SomeByRecursion (λ (x : ℤ). x ≡ q) (map g ts) → p ≤ℤ q
reached f g [] p q below all some = absurd some
reached f g (t ∷ ts) p q below all (inl is) = let first = below.0 in let to = all.0 in omega (arith, ints, first, to, is)
reached f g (t ∷ ts) p q below all (inr there) = reached f g ts p q below.1 all.1 there

reaching : (f g : Term → ℤ) (ts : List Term) (p q : ℤ) → AreBelow f g ts → SomeByRecursion (λ (x : ℤ). x ≡ p) (map f ts) → AllByRecursion (λ (x : ℤ). x ≤ℤ q) (map g ts) → p ≤ℤ q
reaching f g [] p q below some all = absurd some
reaching f g (t ∷ ts) p q below (inl is) all = let first = below.0 in let to = all.0 in omega (arith, ints, first, to, is)
reaching f g (t ∷ ts) p q below (inr there) all = reaching f g ts p q below.1 there all.1

lows_below : (ds : List (List (ℤ × ℤ))) (a : List ℤ) (ts : List Term) → AllByRecursion (IsSpanned ds a) ts → AreBelow (low_of ds) (term_value a) ts
lows_below ds a [] spanned = tt
lows_below ds a (t ∷ ts) spanned = (spanned.0.low, lows_below ds a ts spanned.1)

highs_above : (ds : List (List (ℤ × ℤ))) (a : List ℤ) (ts : List Term) → AllByRecursion (IsSpanned ds a) ts → AreBelow (term_value a) (high_of ds) ts
highs_above ds a [] spanned = tt
highs_above ds a (t ∷ ts) spanned = (spanned.0.high, highs_above ds a ts spanned.1)

-- ---- the operands

difference_between : (x y z lx hx ly hy lz hz : ℤ) → (x +ℤ y) ≡ z → ly ≤ℤ y → y ≤ℤ hy → lz ≤ℤ z → z ≤ℤ hz → IsFromTo (lz -ℤ hy) (hz -ℤ ly) x
difference_between x y z lx hx ly hy lz hz is low_y high_y low_z high_z = (omega (arith, ints, is, low_y, high_y, low_z, high_z), omega (arith, ints, is, low_y, high_y, low_z, high_z))

divided_between : (x y z : Term) (ds : List (List (ℤ × ℤ))) (a : List ℤ) → IsSpanned ds a y → IsSpanned ds a z → (term_value a x *ℤ term_value a y) ≡ term_value a z
    → (pos 0 <ℤ low_of ds y) ⊎ (high_of ds y <ℤ pos 0) → LiesBetween a (corner_bounds int_div z y x ds)
divided_between x y z ds a of_y of_z is sign =
    let not_zero : term_value a y ≢ pos 0 = λ zero. elim sign [
      | inl positive ↦ let low = of_y.low in omega (arith, ints, positive, low, zero)
      | inr negative ↦ let high = of_y.high in omega (arith, ints, negative, high, zero)
    ] in
    let p = quotient_corners (low_of ds z) (high_of ds z) (low_of ds y) (high_of ds y) (term_value a z) (term_value a y) sign of_z.low of_z.high of_y.low of_y.high in
    rw (quotient_is (term_value a x) (term_value a y) (term_value a z) is not_zero) at p

test_lt : (x y : ℤ) → int_lt x y ≡ true → x <ℤ y
test_lt x y e = omega (arith, ints, e)

-- by the sign of y, where it has one
by_sign : (x y z : Term) (ds : List (List (ℤ × ℤ))) (a : List ℤ) → IsSpanned ds a x → ((pos 0 <ℤ low_of ds y) ⊎ (high_of ds y <ℤ pos 0) → LiesBetween a (corner_bounds int_div z y x ds))
    → LiesBetween a (quotient_bounds x y z ds)
by_sign x y z ds a of_x signed =
    elim (int_lt (pos 0) (low_of ds y)) as (λ b. int_lt (pos 0) (low_of ds y) ≡ b → LiesBetween a (if b then corner_bounds int_div z y x ds else (if int_lt (high_of ds y) (pos 0) then corner_bounds int_div z y x ds else own_bounds x ds))) [
      | true ↦ λ e. signed (inl (test_lt (pos 0) (low_of ds y) e))
      | false ↦ λ e. elim (int_lt (high_of ds y) (pos 0)) as (λ b. int_lt (high_of ds y) (pos 0) ≡ b → LiesBetween a (if b then corner_bounds int_div z y x ds else own_bounds x ds)) [
        | true ↦ λ f. signed (inr (test_lt (high_of ds y) (pos 0) f))
        | false ↦ λ f. (of_x.low, of_x.high)
      ] refl
    ] refl

factor_between : (x y z : Term) (ds : List (List (ℤ × ℤ))) (a : List ℤ) → IsSpanned ds a x → IsSpanned ds a y → IsSpanned ds a z → (term_value a x *ℤ term_value a y) ≡ term_value a z
    → LiesBetween a (quotient_bounds x y z ds)
factor_between x y z ds a of_x of_y of_z is = by_sign x y z ds a of_x (λ sign. divided_between x y z ds a of_y of_z is sign)

quotient_between : (x y z : Term) (ds : List (List (ℤ × ℤ))) (a : List ℤ) → IsSpanned ds a x → IsSpanned ds a y → IsSpanned ds a z → int_div (term_value a z) (term_value a y) ≡ term_value a x
    → LiesBetween a (quotient_bounds x y z ds)
quotient_between x y z ds a of_x of_y of_z is = by_sign x y z ds a of_x (λ sign.
    (let p = quotient_corners (low_of ds z) (high_of ds z) (low_of ds y) (high_of ds y) (term_value a z) (term_value a y) sign of_z.low of_z.high of_y.low of_y.high in rw is at p))

both_true : (a b : Bool) → (a && b) ≡ true → (a ≡ true) × (b ≡ true)
both_true true true e = (refl, refl)
both_true true false e = absurd (cc (e))
both_true false b e = absurd (cc (e))

one_number : (x low high : ℤ) → low ≤ℤ x → x ≤ℤ high → low ≡ high → low ≡ x
one_number x low high from to same = omega (arith, ints, from, to, same)

at_most_self : (x : ℤ) → x ≤ℤ x
at_most_self x = omega (arith, ints)

remainder_between : (x y z : Term) (ds : List (List (ℤ × ℤ))) (a : List ℤ) → IsSpanned ds a x → IsSpanned ds a y → IsSpanned ds a z → remainder (term_value a x) (term_value a y) ≡ term_value a z
    → LiesBetween a (remainder_bounds x y z ds)
remainder_between x y z ds a of_x of_y of_z is =
    let r = remainder (low_of ds x) (low_of ds y) in
    elim (int_eq (low_of ds x) (high_of ds x) && int_eq (low_of ds y) (high_of ds y)) as (λ b. (int_eq (low_of ds x) (high_of ds x) && int_eq (low_of ds y) (high_of ds y)) ≡ b
    → LiesBetween a (if b then between z r r else own_bounds z ds)) [
      | true ↦ λ e.
          let both = both_true (int_eq (low_of ds x) (high_of ds x)) (int_eq (low_of ds y) (high_of ds y)) e in
          let at_x = one_number (term_value a x) (low_of ds x) (high_of ds x) of_x.low of_x.high ((Decides-int_eq (low_of ds x) (high_of ds x)).0 both.0) in
          let at_y = one_number (term_value a y) (low_of ds y) (high_of ds y) of_y.low of_y.high ((Decides-int_eq (low_of ds y) (high_of ds y)).0 both.1) in
          rw (at_x, at_y, is) (at_most_self (term_value a z), at_most_self (term_value a z))
      | false ↦ λ e. (of_z.low, of_z.high)
    ] refl

signed_low : (x z lx lz hz : ℤ) → z ≡ pos (nat_abs x) → lx ≤ℤ x → lz ≤ℤ z → z ≤ℤ hz → (if int_lt (neg_ℤ lz) lx then lz else neg_ℤ hz) ≤ℤ x
signed_low (pos n) z lx lz hz is low from to = elim (int_lt (neg_ℤ lz) lx) as (λ b. int_lt (neg_ℤ lz) lx ≡ b → (if b then lz else neg_ℤ hz) ≤ℤ pos n) [
  | true ↦ λ e. omega (arith, ints, is, low, from, to, e)
  | false ↦ λ e. omega (arith, ints, is, low, from, to, e)
] refl
signed_low (negsuc n) z lx lz hz is low from to = elim (int_lt (neg_ℤ lz) lx) as (λ b. int_lt (neg_ℤ lz) lx ≡ b → (if b then lz else neg_ℤ hz) ≤ℤ negsuc n) [
  | true ↦ λ e. omega (arith, ints, is, low, from, to, e)
  | false ↦ λ e. omega (arith, ints, is, low, from, to, e)
] refl

signed_high : (x z hx lz hz : ℤ) → z ≡ pos (nat_abs x) → x ≤ℤ hx → lz ≤ℤ z → z ≤ℤ hz → x ≤ℤ (if int_lt hx lz then neg_ℤ lz else hz)
signed_high (pos n) z hx lz hz is high from to = elim (int_lt hx lz) as (λ b. int_lt hx lz ≡ b → pos n ≤ℤ (if b then neg_ℤ lz else hz)) [
  | true ↦ λ e. omega (arith, ints, is, high, from, to, e)
  | false ↦ λ e. omega (arith, ints, is, high, from, to, e)
] refl
signed_high (negsuc n) z hx lz hz is high from to = elim (int_lt hx lz) as (λ b. int_lt hx lz ≡ b → negsuc n ≤ℤ (if b then neg_ℤ lz else hz)) [
  | true ↦ λ e. omega (arith, ints, is, high, from, to, e)
  | false ↦ λ e. omega (arith, ints, is, high, from, to, e)
] refl

least_between : (xs : List Term) (z : Term) (ds : List (List (ℤ × ℤ))) (a : List ℤ) → AllByRecursion (IsSpanned ds a) xs → IsSpanned ds a z
    → AllByRecursion (λ (x : ℤ). term_value a z ≤ℤ x) (term_values a xs) → AllByRecursion (LiesBetween a) (operand_bounds Min xs z ds)
least_between [] z ds a spanned of_z all = tt
least_between (x ∷ xs) z ds a spanned of_z all =
    let low = of_z.low in let first = all.0 in ((omega (arith, ints, low, first), spanned.0.high), least_between xs z ds a spanned.1 of_z all.1)

greatest_between : (xs : List Term) (z : Term) (ds : List (List (ℤ × ℤ))) (a : List ℤ) → AllByRecursion (IsSpanned ds a) xs → IsSpanned ds a z
    → AllByRecursion (λ (x : ℤ). x ≤ℤ term_value a z) (term_values a xs) → AllByRecursion (LiesBetween a) (operand_bounds Max xs z ds)
greatest_between [] z ds a spanned of_z all = tt
greatest_between (x ∷ xs) z ds a spanned of_z all =
    let high = of_z.high in let first = all.0 in ((spanned.0.low, omega (arith, ints, high, first)), greatest_between xs z ds a spanned.1 of_z all.1)

result_between : (operation : Operation) (xs : List Term) (z : Term) (ds : List (List (ℤ × ℤ))) (a : List ℤ) → AllByRecursion (IsSpanned ds a) xs → IsSpanned ds a z
    → IsResult operation (term_values a xs) (term_value a z) → LiesBetween a (result_bounds operation xs z ds)
result_between Plus (x ∷ y ∷ []) z ds a spanned of_z is =
    let first = spanned.0 in let second = spanned.1.0 in (omega (arith, ints, first, second, is), omega (arith, ints, first, second, is))
result_between Times (x ∷ y ∷ []) z ds a spanned of_z is =
    let p = product_corners (low_of ds x) (high_of ds x) (low_of ds y) (high_of ds y) (term_value a x) (term_value a y) spanned.0.low spanned.0.high spanned.1.0.low spanned.1.0.high in
    rw is at p
result_between Quotient (x ∷ y ∷ []) z ds a spanned of_z is = quotient_between z y x ds a of_z spanned.1.0 spanned.0 is.1
result_between Remainder (x ∷ y ∷ []) z ds a spanned of_z is = remainder_between x y z ds a spanned.0 spanned.1.0 of_z is.1
result_between Abs (x ∷ []) z ds a spanned of_z is = (
  rw is (least_below (term_set ds x) (term_value a x) spanned.0.member),
  rw is (greatest_above (term_set ds x) (term_value a x) spanned.0.ranges.some spanned.0.ranges.ranges spanned.0.member),
)
result_between Min (x ∷ xs) z ds a spanned of_z is = (
  (let p = least_is (low_of ds x) (map (low_of ds) xs) in
      reached (low_of ds) (term_value a) (x ∷ xs) (fold int_min (low_of ds x) (map (low_of ds) xs)) (term_value a z) (lows_below ds a (x ∷ xs) spanned) p.1 is.0),
  (let p = least_is (high_of ds x) (map (high_of ds) xs) in
      reached (term_value a) (high_of ds) (x ∷ xs) (term_value a z) (fold int_min (high_of ds x) (map (high_of ds) xs)) (highs_above ds a (x ∷ xs) spanned) is.1 p.0),
)
result_between Max (x ∷ xs) z ds a spanned of_z is = (
  (let p = greatest_is (low_of ds x) (map (low_of ds) xs) in
      reaching (low_of ds) (term_value a) (x ∷ xs) (fold int_max (low_of ds x) (map (low_of ds) xs)) (term_value a z) (lows_below ds a (x ∷ xs) spanned) p.0 is.1),
  (let p = greatest_is (high_of ds x) (map (high_of ds) xs) in
      reaching (term_value a) (high_of ds) (x ∷ xs) (term_value a z) (fold int_max (high_of ds x) (map (high_of ds) xs)) (highs_above ds a (x ∷ xs) spanned) is.0 p.1),
)
result_between Min [] z ds a spanned of_z is = absurd is.0
result_between Max [] z ds a spanned of_z is = absurd is.0
result_between operation xs z ds a spanned of_z is = absurd is

turned : (x y z : ℤ) → (x +ℤ y) ≡ z → (y +ℤ x) ≡ z
turned x y z is = omega (arith, ints, is)

operands_between : (operation : Operation) (xs : List Term) (z : Term) (ds : List (List (ℤ × ℤ))) (a : List ℤ) → AllByRecursion (IsSpanned ds a) xs → IsSpanned ds a z
    → IsResult operation (term_values a xs) (term_value a z) → AllByRecursion (LiesBetween a) (operand_bounds operation xs z ds)
operands_between Plus (x ∷ y ∷ []) z ds a spanned of_z is =
    let first = difference_between (term_value a x) (term_value a y) (term_value a z) (low_of ds x) (high_of ds x) (low_of ds y) (high_of ds y) (low_of ds z) (high_of ds z) is
    spanned.1.0.low spanned.1.0.high of_z.low of_z.high in
    let second = difference_between (term_value a y) (term_value a x) (term_value a z) (low_of ds y) (high_of ds y) (low_of ds x) (high_of ds x) (low_of ds z) (high_of ds z)
    (turned (term_value a x) (term_value a y) (term_value a z) is) spanned.0.low spanned.0.high of_z.low of_z.high in
    (first, (second, tt))
operands_between Times (x ∷ y ∷ []) z ds a spanned of_z is = (
  factor_between x y z ds a spanned.0 spanned.1.0 of_z is,
  (factor_between y x z ds a spanned.1.0 spanned.0 of_z (*ℤ_comm (term_value a y) (term_value a x) ∙ is), tt),
)
operands_between Quotient (x ∷ y ∷ []) z ds a spanned of_z is = ((spanned.0.low, spanned.0.high), ((spanned.1.0.low, spanned.1.0.high), tt))
operands_between Remainder (x ∷ y ∷ []) z ds a spanned of_z is = ((spanned.0.low, spanned.0.high), ((spanned.1.0.low, spanned.1.0.high), tt))
operands_between Abs (x ∷ []) z ds a spanned of_z is = (
  (
    signed_low (term_value a x) (term_value a z) (low_of ds x) (low_of ds z) (high_of ds z) is spanned.0.low of_z.low of_z.high,
    signed_high (term_value a x) (term_value a z) (high_of ds x) (low_of ds z) (high_of ds z) is spanned.0.high of_z.low of_z.high,
  ),
  tt,
)
operands_between Min xs z ds a spanned of_z is = least_between xs z ds a spanned of_z is.1
operands_between Max xs z ds a spanned of_z is = greatest_between xs z ds a spanned of_z is.1
operands_between operation xs z ds a spanned of_z is = absurd is

pub all_between : (e : Equation) (ds : List (List (ℤ × ℤ))) (a : List ℤ) → AllByRecursion (IsSpanned ds a) (equation_terms e) → EquationTruth e a → AllByRecursion (LiesBetween a) (bounds_of e ds)
all_between e ds a spanned is = (
  result_between e.operation e.operands e.result ds a spanned.1 spanned.0 is,
  operands_between e.operation e.operands e.result ds a spanned.1 spanned.0 is,
)
