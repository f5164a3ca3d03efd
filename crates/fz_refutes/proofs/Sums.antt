-- A weighted sum lies between its least and its greatest.
use Rattle.std.proofs.Common.{ℤ, pos, negsuc, ◌≤ℤ◌, List, [], ◌∷◌, arith}
use Rattle.std.specs.Prelude.{◌*ℤ◌}
use Rattle.std.proofs.lemmas.Int.{ints}
use Rattle.fz_num.proofs.Products.{mul_le, mul_ge}
use Rattle.fz_sets.specs.Sets.{AreRanges, IsInSet}
use Rattle.fz_dom.specs.Shape.{least, greatest}
use Rattle.fz_dom.proofs.Ranges.{least_below, upper_bound}
use Rattle.fz_spec.specs.declared.term.Term.{Term}
use Rattle.fz_spec.specs.Constraints.{term_value, term_values}
use Rattle.fz_spec.specs.Truth.{weighted_sum}
use Rattle.fz_refutes.specs.Boxes.{IsInBox, AreSets, set_of}
use Rattle.fz_refutes.specs.Refuted.{least_product, greatest_product, least_sum, greatest_sum}
use Rattle.fz_refutes.proofs.Insides.{at_term, ranges_of_term}

product_above : (k : ℤ) (d : List (ℤ × ℤ)) (x : ℤ) → AreRanges d → IsInSet d x → least_product k d ≤ℤ (k *ℤ x)
product_above (pos n) d x are i = mul_le n (least d) x (least_below d x are i)
product_above (negsuc n) d x are i = mul_ge n x (greatest d) (upper_bound d x are i)

product_below : (k : ℤ) (d : List (ℤ × ℤ)) (x : ℤ) → AreRanges d → IsInSet d x → (k *ℤ x) ≤ℤ greatest_product k d
product_below (pos n) d x are i = mul_le n x (greatest d) (upper_bound d x are i)
product_below (negsuc n) d x are i = mul_ge n (least d) x (least_below d x are i)

pub sum_above : (box : List (List (ℤ × ℤ))) (b : List ℤ) (ks : List ℤ) (ts : List Term) → AreSets box → IsInBox box b → least_sum box ks ts ≤ℤ weighted_sum ks (term_values b ts)
sum_above box b [] ts are i = omega (arith, ints)
sum_above box b (k ∷ ks) [] are i = omega (arith, ints)
sum_above box b (k ∷ ks) (t ∷ ts) are i =
    let here = product_above k (set_of box t) (term_value b t) (ranges_of_term box t are) (at_term box b t i) in
    let rest = sum_above box b ks ts are i in
    omega (arith, ints, here, rest)

pub sum_below : (box : List (List (ℤ × ℤ))) (b : List ℤ) (ks : List ℤ) (ts : List Term) → AreSets box → IsInBox box b → weighted_sum ks (term_values b ts) ≤ℤ greatest_sum box ks ts
sum_below box b [] ts are i = omega (arith, ints)
sum_below box b (k ∷ ks) [] are i = omega (arith, ints)
sum_below box b (k ∷ ks) (t ∷ ts) are i =
    let here = product_below k (set_of box t) (term_value b t) (ranges_of_term box t are) (at_term box b t i) in
    let rest = sum_below box b ks ts are i in
    omega (arith, ints, here, rest)
