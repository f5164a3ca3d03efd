-- The ends of terms, one after the other.
use Rattle.std.proofs.Common.{◌≡◌, ℕ, zero, suc, ◌<◌, List, [], ◌∷◌, refl, arith, length, map, take}
use Rattle.std.specs.Prelude.{ℤ, pos, negsuc, neg_ℤ, ◌≤ℤ◌, slice_index_or}
use Rattle.std.specs.Int.{int_min}
use Rattle.std.specs.List.{fold}
use Rattle.std.proofs.lemmas.Int.{ints, clamps}
use Rattle.fz_dom.specs.Shape.{IsDomain, least, greatest}
use Rattle.fz_dom.proofs.Ranges.{least_member, greatest_member}
use Rattle.fz_spec.specs.Truth.{size_of}
use Rattle.fz_strength.specs.Operations.{size_between, least_size}
use Rattle.fz_strength.proofs.Sizes.{sizes_of_sets}

pub fold_mapped : {X : Type 0} (f : ℤ → ℤ → ℤ) (g : X → ℤ) (a : ℤ) (ts : List X) (i : ℕ) (d : X) → i < length ts → fold f a (map g (take (suc i) ts)) ≡ f (fold f a (map g (take i ts))) (g (slice_index_or ts i d))
fold_mapped f g a [] i d within = absurd (omega (arith, within))
fold_mapped f g a (t ∷ ts) zero d within = refl
fold_mapped f g a (t ∷ ts) (suc i) d within = fold_mapped f g (f a (g t)) ts i d (omega (arith, within))

-- ---- the least size of a number of a set

size_pos : (x : ℤ) → pos 0 ≤ℤ x → size_of x ≡ x
size_pos (pos n) h = refl
size_pos (negsuc n) h = absurd (omega (arith, ints, h))

size_neg : (x : ℤ) → x ≤ℤ pos 0 → size_of x ≡ neg_ℤ x
size_neg (pos n) h = omega (arith, ints, clamps, h)
size_neg (negsuc n) h = refl

-- where no number is negative it is the least, and where none is positive that of the greatest
pub least_above : (d : List (ℤ × ℤ)) → IsDomain d → 0 < length d → pos 0 ≤ℤ least d → least d ≡ least_size d
least_above d domain some above =
    let h = sizes_of_sets d domain some in
    let first = least_member d some domain.0 in
    let near = first.1 h.least.0 h.least.1 in
    let size = size_pos h.least.0 (omega (arith, ints, above, near)) in
    let same = h.least.2 in
    let at_first = (h.between (least d) first.0).0 in
    let of_first = size_pos (least d) above in
    omega (arith, ints, near, size, same, at_first, of_first)

pub least_below_zero : (d : List (ℤ × ℤ)) → IsDomain d → 0 < length d → greatest d ≤ℤ pos 0 → neg_ℤ (greatest d) ≡ least_size d
least_below_zero d domain some below =
    let h = sizes_of_sets d domain some in
    let last = greatest_member d some domain.0 in
    let near = last.1 h.least.0 h.least.1 in
    let size = size_neg h.least.0 (omega (arith, ints, below, near)) in
    let same = h.least.2 in
    let at_last = (h.between (greatest d) last.0).0 in
    let of_last = size_neg (greatest d) below in
    omega (arith, ints, near, size, same, at_last, of_last)

-- of one range more
pub least_more : (d : List (ℤ × ℤ)) (i : ℕ) (z : ℤ × ℤ) → 0 < i → i < length d → least_size (take (suc i) d) ≡ int_min (least_size (take i d)) (size_between (slice_index_or d i z))
least_more [] i z some within = absurd (omega (arith, within))
least_more (r ∷ rs) zero z some within = absurd (omega (arith, some))
least_more (r ∷ rs) (suc i) z some within = fold_mapped int_min size_between (size_between r) rs i z (omega (arith, within))
