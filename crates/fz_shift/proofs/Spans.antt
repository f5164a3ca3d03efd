-- Sets with their ends, and the products of their numbers.
use Rattle.std.proofs.Common.{◌≡◌, ℕ, zero, suc, ◌*◌, List, refl, arith, length}
use Rattle.std.specs.Prelude.{ℤ, pos, negsuc, neg_ℤ, ◌+ℤ◌, ◌-ℤ◌, ◌*ℤ◌, ◌≤ℤ◌}
use Rattle.std.proofs.lemmas.Int.{ints}
use Rattle.std.proofs.Math.IntN.{zero-*ℤ, suc_ℤ-*ℤ, pred_ℤ-*ℤ}
use Rattle.std.proofs.Math.Nat.{suc-mul}
use Rattle.fz_sets.specs.Sets.{IsInSet, single}
use Rattle.fz_dom.specs.Shape.{least, greatest}
use Rattle.fz_dom.proofs.Ranges.{least_member, greatest_member}
use Rattle.fz_num.proofs.Products.{mul_le, mul_ge}
use Rattle.fz_spec.specs.declared.term.Term.{Term}
use Rattle.fz_spec.specs.declared.term.Term.TheVariants.{Num, Var}
use Rattle.fz_strength.specs.Domains.{term_set, AreDomains, IsTermOf}
use Rattle.fz_strength.specs.Sums.{least_product, greatest_product}
use Rattle.fz_strength.proofs.SumLaws.{neg_product}
use Rattle.fz_strength.proofs.Terms.{in_single, is_single}
use Rattle.fz_shift.specs.Spans.{IsSpanned}

spanned_single : (n : ℤ) → IsSpanned (single n)
spanned_single n = record {
  low = in_single n n refl;
  high = in_single n n refl;
  above = λ x is. omega (arith, ints, is_single x n is);
  below = λ x is. omega (arith, ints, is_single x n is);
}

pub spanned : (ds : List (List (ℤ × ℤ))) (t : Term) → AreDomains ds → IsTermOf (length ds) t → IsSpanned (term_set ds t)
spanned ds (Num n) domains is = spanned_single n
spanned ds (Var v) domains is =
    let domain = domains v is in
    let low = least_member (term_set ds (Var v)) domain.1 domain.0.0 in
    let high = greatest_member (term_set ds (Var v)) domain.1 domain.0.0 in
    record { low = low.0; high = high.0; above = low.1; below = high.1 }

pub ends_rise : (d : List (ℤ × ℤ)) → IsSpanned d → least d ≤ℤ greatest d
ends_rise d is = is.above (greatest d) is.high

-- ---- products

pub product_above : (k : ℤ) (d : List (ℤ × ℤ)) (x : ℤ) → IsSpanned d → IsInSet d x → least_product k d ≤ℤ (k *ℤ x)
product_above (pos n) d x is in_d = mul_le n (least d) x (is.above x in_d)
product_above (negsuc n) d x is in_d = mul_ge n x (greatest d) (is.below x in_d)

pub product_below : (k : ℤ) (d : List (ℤ × ℤ)) (x : ℤ) → IsSpanned d → IsInSet d x → (k *ℤ x) ≤ℤ greatest_product k d
product_below (pos n) d x is in_d = mul_le n x (greatest d) (is.below x in_d)
product_below (negsuc n) d x is in_d = mul_ge n (least d) x (is.above x in_d)

-- as a set gets narrower, its least product rises and its greatest falls
pub least_rises : (k : ℤ) (d e : List (ℤ × ℤ)) → IsSpanned d → IsSpanned e → ((x : ℤ) → IsInSet e x → IsInSet d x) → least_product k d ≤ℤ least_product k e
least_rises (pos n) d e is_d is_e inside = mul_le n (least d) (least e) (is_d.above (least e) (inside (least e) is_e.low))
least_rises (negsuc n) d e is_d is_e inside = mul_ge n (greatest e) (greatest d) (is_d.below (greatest e) (inside (greatest e) is_e.high))

pub greatest_falls : (k : ℤ) (d e : List (ℤ × ℤ)) → IsSpanned d → IsSpanned e → ((x : ℤ) → IsInSet e x → IsInSet d x) → greatest_product k e ≤ℤ greatest_product k d
greatest_falls (pos n) d e is_d is_e inside = mul_le n (greatest e) (greatest d) (is_d.below (greatest e) (inside (greatest e) is_e.high))
greatest_falls (negsuc n) d e is_d is_e inside = mul_ge n (least d) (least e) (is_d.above (least e) (inside (least e) is_e.low))

pub products_rise : (k : ℤ) (d : List (ℤ × ℤ)) → IsSpanned d → least_product k d ≤ℤ greatest_product k d
products_rise (pos n) d is = mul_le n (least d) (greatest d) (ends_rise d is)
products_rise (negsuc n) d is = mul_ge n (least d) (greatest d) (ends_rise d is)

-- the ends of the negated products
pub least_negated : (k : ℤ) (d : List (ℤ × ℤ)) → least_product (neg_ℤ k) d ≡ neg_ℤ (greatest_product k d)
least_negated (pos zero) d = rw (zero-*ℤ (least d), zero-*ℤ (greatest d)) refl
least_negated (pos (suc n)) d = neg_product (pos (suc n)) (greatest d)
least_negated (negsuc n) d = neg_product (negsuc n) (least d)

pub greatest_negated : (k : ℤ) (d : List (ℤ × ℤ)) → greatest_product (neg_ℤ k) d ≡ neg_ℤ (least_product k d)
greatest_negated (pos zero) d = rw (zero-*ℤ (least d), zero-*ℤ (greatest d)) refl
greatest_negated (pos (suc n)) d = neg_product (pos (suc n)) (least d)
greatest_negated (negsuc n) d = neg_product (negsuc n) (greatest d)

-- ---- products of numbers that lie apart

pub away_up : (n d : ℕ) (x y : ℤ) → x ≡ (y +ℤ pos d) → (pos n *ℤ x) ≡ ((pos n *ℤ y) +ℤ pos (n * d))
away_up zero d x y e = rw (zero-*ℤ x, zero-*ℤ y) (omega (arith, ints))
away_up (suc n) d x y e = let h = away_up n d x y e in let m = suc-mul n d in rw (suc_ℤ-*ℤ (pos n) x, suc_ℤ-*ℤ (pos n) y) (omega (arith, ints, h, e, m))

pub away_down : (n d : ℕ) (x y : ℤ) → x ≡ (y -ℤ pos d) → (negsuc n *ℤ x) ≡ ((negsuc n *ℤ y) +ℤ pos (suc n * d))
away_down zero d x y e = let m = suc-mul zero d in rw (pred_ℤ-*ℤ (pos 0) x, pred_ℤ-*ℤ (pos 0) y, zero-*ℤ x, zero-*ℤ y) (omega (arith, ints, e, m))
away_down (suc n) d x y e = let h = away_down n d x y e in let m = suc-mul (suc n) d in rw (pred_ℤ-*ℤ (negsuc n) x, pred_ℤ-*ℤ (negsuc n) y) (omega (arith, ints, h, e, m))
