-- The steps of a sum.
use Rattle.std.proofs.Common.{◌≡◌, ℕ, ◌<◌, ◌≤◌, ◌+◌, ◌*◌, ◌^◌, List, refl, arith, length, drop, drop-cons, add-one}
use Rattle.std.specs.Prelude.{ℤ, pos, ◌+ℤ◌, ◌≤ℤ◌, unsigned_abs, slice_index_or}
use Rattle.std.proofs.lemmas.Int.{ints}
use Rattle.fz_spec.specs.declared.term.Term.{Term}
use Rattle.fz_spec.specs.declared.term.Term.TheVariants.{Num}
use Rattle.fz_strength.specs.Domains.{term_set}
use Rattle.fz_strength.specs.Sums.{least_product, greatest_product, least_sum, greatest_sum, AreNear}
use Rattle.fz_linear.proofs.Slacks.{IsAt, near_from}

-- a sum of that many products, and what is left of the whole
pub record IsSummed (sum rest whole : ℤ) (n : ℕ) : Type 0 where
  pub is : (sum +ℤ rest) ≡ whole
  pub near : unsigned_abs sum ≤ n * 2 ^ 63

pub summed_more : (sum rest whole product behind total : ℤ) (n : ℕ) → IsSummed sum rest whole n → rest ≡ (product +ℤ behind) → total ≡ (sum +ℤ product)
    → unsigned_abs total ≤ (n + 1) * 2 ^ 63 → IsSummed total behind whole (n + 1)
summed_more sum rest whole product behind total n so_far e f near = record { is = (let g = so_far.is in omega (arith, ints, e, f, g)); near = near }

pub summed : (sum rest whole : ℤ) (n : ℕ) → IsSummed sum rest whole n → rest ≡ pos 0 → sum ≡ whole
summed sum rest whole n so_far none = let e = so_far.is in omega (arith, ints, e, none)

-- ---- at a place

pub at_place : (ks : List ℤ) (ts : List Term) (i : ℕ) → length ks ≡ length ts → i < length ks → IsAt ks ts i (slice_index_or ks i (pos 0)) (slice_index_or ts i (Num (pos 0)))
at_place ks ts i same within = record { factor = drop-cons ks i (pos 0) within; term = drop-cons ts i (Num (pos 0)) (omega (arith, same, within)) }

pub least_more : (ds : List (List (ℤ × ℤ))) (ks : List ℤ) (ts : List Term) (i : ℕ) (k : ℤ) (t : Term) → IsAt ks ts i k t
    → least_sum ds (drop i ks) (drop i ts) ≡ (least_product k (term_set ds t) +ℤ least_sum ds (drop (i + 1) ks) (drop (i + 1) ts))
least_more ds ks ts i k t at = rw (at.factor, at.term, add-one i) refl

pub greatest_more : (ds : List (List (ℤ × ℤ))) (ks : List ℤ) (ts : List Term) (i : ℕ) (k : ℤ) (t : Term) → IsAt ks ts i k t
    → greatest_sum ds (drop i ks) (drop i ts) ≡ (greatest_product k (term_set ds t) +ℤ greatest_sum ds (drop (i + 1) ks) (drop (i + 1) ts))
greatest_more ds ks ts i k t at = rw (at.factor, at.term, add-one i) refl

-- where a term's ends are so near, it may stand before terms that are
pub near_more : (ds : List (List (ℤ × ℤ))) (ks : List ℤ) (ts : List Term) (i : ℕ) (k : ℤ) (t : Term) (low high slack : ℤ) (width widest : ℕ) → IsAt ks ts i k t
    → low ≡ least_product k (term_set ds t) → high ≡ greatest_product k (term_set ds t) → high ≤ℤ (low +ℤ pos width) → width ≤ widest → pos widest ≤ℤ slack
    → AreNear ds slack (drop (i + 1) ks) (drop (i + 1) ts) → AreNear ds slack (drop i ks) (drop i ts)
near_more ds ks ts i k t low high slack width widest at low_is high_is near wide fits rest =
    near_from ks ts i k t ds slack at (omega (arith, ints, low_is, high_is, near, wide, fits)) (rw (add-one i) at rest)
