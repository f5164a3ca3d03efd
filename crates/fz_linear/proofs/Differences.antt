-- A sum that is the difference of two variables.
use Rattle.std.proofs.Common.{◌≡◌, ◌⊎◌, ℕ, List, [], ◌∷◌, sym, ◌∙◌, arith, inl, inr}
use Rattle.std.specs.Prelude.{ℤ, pos, negsuc, neg_ℤ, ◌-ℤ◌}
use Rattle.std.proofs.lemmas.Int.{ints}
use Rattle.fz_dom.specs.Shape.{least, greatest}
use Rattle.fz_spec.specs.declared.term.Term.{Term}
use Rattle.fz_spec.specs.declared.term.Term.TheVariants.{Var}
use Rattle.fz_spec.specs.Truth.{weighted_sum}
use Rattle.fz_spec.specs.declared.shape.Relation.{Relation}
use Rattle.fz_spec.specs.declared.shape.Relation.TheVariants.{Equal, NotEqual}
use Rattle.fz_strength.specs.Domains.{dom_at, number_at}
use Rattle.fz_strength.specs.Events.{IsFixedIn}
use Rattle.fz_strength.specs.Sums.{RestsAtMost, AllButOneFixed}
use Rattle.fz_strength.proofs.SumLaws.{neg_product}
use Rattle.fz_prop.specs.Truths.{IsSame}
use Rattle.fz_shift.specs.Differences.{IsDifferenceOf, DifferenceTruth, IsCloseAbove, DifferenceLine}
use Rattle.fz_linear.specs.Sums.{SumTruth, SumLine}

-- ---- a difference is a sum

abbrev pub IsSameSum : Relation → ℕ → ℕ → ℤ → List ℤ → List Term → Type 0
IsSameSum relation x y c ks ts = IsSame (DifferenceTruth relation x y c) (SumTruth relation ks ts c) (DifferenceLine relation x y c) (SumLine relation ks ts c)

sum_of_two : (u w : ℤ) → weighted_sum (pos 1 ∷ negsuc 0 ∷ []) (u ∷ w ∷ []) ≡ (u -ℤ w)
sum_of_two u w = let p = neg_product (pos 1) w in omega (arith, ints, p)

sum_of_turned : (u w : ℤ) → weighted_sum (negsuc 0 ∷ pos 1 ∷ []) (w ∷ u ∷ []) ≡ (u -ℤ w)
sum_of_turned u w = let p = neg_product (pos 1) w in omega (arith, ints, p)

-- the line of an order over the two
close_line : (ds : List (List (ℤ × ℤ))) (x y : ℕ) (c : ℤ) → IsCloseAbove ds x y c → RestsAtMost ds (pos 1 ∷ negsuc 0 ∷ []) (Var x ∷ Var y ∷ []) c
close_line ds x y c h =
    let p = neg_product (pos 1) (greatest (dom_at ds y)) in
    let q = neg_product (pos 1) (least (dom_at ds y)) in
    record {
      reached = let r = h.reached in omega (arith, ints, p, r);
      near = ((let r = h.greatest_end in omega (arith, ints, p, r)), ((let r = h.least_end in omega (arith, ints, p, q, r)), tt));
    }

close_turned : (ds : List (List (ℤ × ℤ))) (x y : ℕ) (c : ℤ) → IsCloseAbove ds x y c → RestsAtMost ds (negsuc 0 ∷ pos 1 ∷ []) (Var y ∷ Var x ∷ []) c
close_turned ds x y c h =
    let p = neg_product (pos 1) (greatest (dom_at ds y)) in
    let q = neg_product (pos 1) (least (dom_at ds y)) in
    record {
      reached = let r = h.reached in omega (arith, ints, p, r);
      near = ((let r = h.least_end in omega (arith, ints, p, q, r)), ((let r = h.greatest_end in omega (arith, ints, p, r)), tt));
    }

-- one of two that are fixed but for one at most
one_of_two : (ds : List (List (ℤ × ℤ))) (s t : Term) → AllButOneFixed ds (s ∷ t ∷ []) → IsFixedIn ds s ⊎ IsFixedIn ds t
one_of_two ds s t h = elim h [ inl behind ↦ inr behind.0 | inr first ↦ inl first.0 ]

turned_sum : (ds : List (List (ℤ × ℤ))) (s t : Term) → IsFixedIn ds s ⊎ IsFixedIn ds t → IsFixedIn ds t ⊎ IsFixedIn ds s
turned_sum ds s t h = elim h [ inl a ↦ inr a | inr b ↦ inl b ]

pub equal_sum : (x y : ℕ) (c : ℤ) (ks : List ℤ) (ts : List Term) → IsDifferenceOf x y ks ts → IsSameSum Equal x y c ks ts
equal_sum x y c ks ts h = elim h [
  | inl is ↦ rw (is.0, is.1) (record {
    truth = λ a. let s = sum_of_two (number_at a x) (number_at a y) in ((λ e. s ∙ e), (λ e. sym s ∙ e));
    line = λ ds l. (close_line ds x y c l.0, close_turned ds y x (neg_ℤ c) l.1);
  })
  | inr is ↦ rw (is.0, is.1) (record {
    truth = λ a. let s = sum_of_turned (number_at a x) (number_at a y) in ((λ e. s ∙ e), (λ e. sym s ∙ e));
    line = λ ds l. (close_turned ds x y c l.0, close_line ds y x (neg_ℤ c) l.1);
  })
]

pub apart_sum : (x y : ℕ) (c : ℤ) (ks : List ℤ) (ts : List Term) → IsDifferenceOf x y ks ts → IsSameSum NotEqual x y c ks ts
apart_sum x y c ks ts h = elim h [
  | inl is ↦ rw (is.0, is.1) (record {
    truth = λ a. let s = sum_of_two (number_at a x) (number_at a y) in ((λ n e. n (sym s ∙ e)), (λ n e. n (s ∙ e)));
    line = λ ds l fixed a within e. l (one_of_two ds (Var x) (Var y) fixed) a within (sym (sum_of_two (number_at a x) (number_at a y)) ∙ e);
  })
  | inr is ↦ rw (is.0, is.1) (record {
    truth = λ a. let s = sum_of_turned (number_at a x) (number_at a y) in ((λ n e. n (sym s ∙ e)), (λ n e. n (s ∙ e)));
    line = λ ds l fixed a within e.
        l (turned_sum ds (Var y) (Var x) (one_of_two ds (Var y) (Var x) fixed)) a within (sym (sum_of_turned (number_at a x) (number_at a y)) ∙ e);
  })
]
