-- The steps of a sum.
use Rattle.std.proofs.Common.{◌≡◌, ℕ, ◌<◌, ◌≤◌, ◌+◌, ◌*◌, ◌^◌, ◌∷◌, zero, suc, List, [], refl, arith, length, drop, drop-cons, add-one, min}
use Rattle.std.specs.Prelude.{ℤ, pos, ◌+ℤ◌, unsigned_abs, slice_index_or}
use Rattle.std.proofs.lemmas.Int.{ints}
use Rattle.fz_spec.specs.declared.term.Term.{Term}
use Rattle.fz_spec.specs.declared.term.Term.TheVariants.{Num}
use Rattle.fz_refutes.specs.Boxes.{set_of}
use Rattle.fz_refutes.specs.Refuted.{least_product, greatest_product, least_sum, greatest_sum}

-- a sum of that many products, and what is left of the whole
pub record IsSummed (sum rest whole : ℤ) (n : ℕ) : Type 0 where
  pub is : (sum +ℤ rest) ≡ whole
  pub near : unsigned_abs sum ≤ n * 2 ^ 62

pub summed_more : (sum rest whole product behind total : ℤ) (n : ℕ) → IsSummed sum rest whole n → rest ≡ (product +ℤ behind) → total ≡ (sum +ℤ product)
    → unsigned_abs total ≤ (n + 1) * 2 ^ 62 → IsSummed total behind whole (n + 1)
summed_more sum rest whole product behind total n so_far e f near = record { is = (let g = so_far.is in omega (arith, ints, e, f, g)); near = near }

pub summed : (sum rest whole : ℤ) (n : ℕ) → IsSummed sum rest whole n → rest ≡ pos 0 → sum ≡ whole
summed sum rest whole n so_far none = let e = so_far.is in omega (arith, ints, e, none)

-- ---- at a place

pub record IsAt (ks : List ℤ) (ts : List Term) (i : ℕ) (k : ℤ) (t : Term) : Type 0 where
  pub factor : drop i ks ≡ k ∷ drop (suc i) ks
  pub term : drop i ts ≡ t ∷ drop (suc i) ts

pub at_place : (ks : List ℤ) (ts : List Term) (i : ℕ) → i < length ks → i < length ts → IsAt ks ts i (slice_index_or ks i (pos 0)) (slice_index_or ts i (Num (pos 0)))
at_place ks ts i within also = record { factor = drop-cons ks i (pos 0) within; term = drop-cons ts i (Num (pos 0)) also }

pub least_more : (box : List (List (ℤ × ℤ))) (ks : List ℤ) (ts : List Term) (i : ℕ) (k : ℤ) (t : Term) → IsAt ks ts i k t
    → least_sum box (drop i ks) (drop i ts) ≡ (least_product k (set_of box t) +ℤ least_sum box (drop (i + 1) ks) (drop (i + 1) ts))
least_more box ks ts i k t at = rw (at.factor, at.term, add-one i) refl

pub greatest_more : (box : List (List (ℤ × ℤ))) (ks : List ℤ) (ts : List Term) (i : ℕ) (k : ℤ) (t : Term) → IsAt ks ts i k t
    → greatest_sum box (drop i ks) (drop i ts) ≡ (greatest_product k (set_of box t) +ℤ greatest_sum box (drop (i + 1) ks) (drop (i + 1) ts))
greatest_more box ks ts i k t at = rw (at.factor, at.term, add-one i) refl

least_short : (box : List (List (ℤ × ℤ))) (ks : List ℤ) → least_sum box ks [] ≡ pos 0
least_short box [] = refl
least_short box (k ∷ ks) = refl

greatest_short : (box : List (List (ℤ × ℤ))) (ks : List ℤ) → greatest_sum box ks [] ≡ pos 0
greatest_short box [] = refl
greatest_short box (k ∷ ks) = refl

-- past the end of the shorter list there is nothing
pub least_end : (box : List (List (ℤ × ℤ))) (ks : List ℤ) (ts : List Term) (i : ℕ) → min (length ks) (length ts) ≤ i → least_sum box (drop i ks) (drop i ts) ≡ pos 0
least_end box [] ts zero end = refl
least_end box [] ts (suc i) end = refl
least_end box (k ∷ ks) [] zero end = refl
least_end box (k ∷ ks) (t ∷ ts) zero end = absurd (omega (arith, end))
least_end box (k ∷ ks) [] (suc i) end = least_short box (drop i ks)
least_end box (k ∷ ks) (t ∷ ts) (suc i) end = least_end box ks ts i (omega (arith, end))

pub greatest_end : (box : List (List (ℤ × ℤ))) (ks : List ℤ) (ts : List Term) (i : ℕ) → min (length ks) (length ts) ≤ i → greatest_sum box (drop i ks) (drop i ts) ≡ pos 0
greatest_end box [] ts zero end = refl
greatest_end box [] ts (suc i) end = refl
greatest_end box (k ∷ ks) [] zero end = refl
greatest_end box (k ∷ ks) (t ∷ ts) zero end = absurd (omega (arith, end))
greatest_end box (k ∷ ks) [] (suc i) end = greatest_short box (drop i ks)
greatest_end box (k ∷ ks) (t ∷ ts) (suc i) end = greatest_end box ks ts i (omega (arith, end))
