-- The value at a place, while the ranges are gone through.
use Rattle.std.proofs.Common.{◌≡◌, ℕ, zero, suc, ◌+◌, ◌-◌, ◌<◌, ◌≤◌, List, [], ◌∷◌, sym, ap, subst, ◌∙◌, arith, length, drop, get_or}
use Rattle.std.specs.Prelude.{ℤ, pos, ◌+ℤ◌, ◌-ℤ◌, ◌≤ℤ◌, nat_abs, nat_lt}
use mir.Syntax.{w32, w64}
use mir.Val.{to_z, of_z}
use Rattle.std.proofs.lemmas.Bool.{cond-true, cond-false, lt-ltb, le-ltb}
use Rattle.std.proofs.lemmas.Int.{ints}
use Rattle.std.proofs.Math.Seq.{drop-cons}
use Rattle.fz_sets.specs.Sets.{IsWithinLimits, AreRanges, AreWithinLimits, range_size, set_size}
use Rattle.fz_region.specs.Each.{value_at}

-- what is sought stands in the ranges from a place on
pub record IsLeft (d : List (ℤ × ℤ)) (i left place : ℕ) : Type 0 where
  pub is : value_at (drop i d) left ≡ value_at d place
  pub within : left < set_size (drop i d)

range_on : (d : List (ℤ × ℤ)) (i : ℕ) (r : ℤ × ℤ) → i < length d → r ≡ get_or d i r → drop i d ≡ r ∷ drop (i + 1) d
range_on d i r h is = let next : suc i ≡ i + 1 = omega arith in drop-cons d i r h ∙ ap (λ x. x ∷ drop (suc i) d) (sym is) ∙ ap (λ n. r ∷ drop n d) next

pub found_in : (d : List (ℤ × ℤ)) (i left place : ℕ) (r : ℤ × ℤ) → i < length d → r ≡ get_or d i r → IsLeft d i left place → left < range_size r → r.0 +ℤ pos left ≡ value_at d place
found_in d i left place r h is sought small =
    sym (cond-true (nat_lt left (range_size r)) (r.0 +ℤ pos left) (value_at (drop (i + 1) d) (left - range_size r)) (lt-ltb left (range_size r) small))
    ∙ ap (λ (rs : List (ℤ × ℤ)). value_at rs left) (sym (range_on d i r h is)) ∙ sought.is

pub passed_by : (d : List (ℤ × ℤ)) (i left place : ℕ) (r : ℤ × ℤ) → i < length d → r ≡ get_or d i r → IsLeft d i left place → range_size r ≤ left → IsLeft d (i + 1) (left - range_size r) place
passed_by d i left place r h is sought large = record {
  is = sym (cond-false (nat_lt left (range_size r)) (r.0 +ℤ pos left) (value_at (drop (i + 1) d) (left - range_size r)) (le-ltb left (range_size r) large))
      ∙ ap (λ (rs : List (ℤ × ℤ)). value_at rs left) (sym (range_on d i r h is)) ∙ sought.is;
  within = omega (arith, large, subst (λ (rs : List (ℤ × ℤ)). left < set_size rs) (range_on d i r h is) sought.within);
}

-- ---- a range of a domain

pub range_rises : (d : List (ℤ × ℤ)) (i : ℕ) (r : ℤ × ℤ) → AreRanges d → i < length d → r ≡ get_or d i r → r.0 ≤ℤ r.1
range_rises [] i r h lt is = absurd (omega (arith, lt))
range_rises (s ∷ []) zero r h lt is = subst (λ (q : ℤ × ℤ). q.0 ≤ℤ q.1) (sym is) h
range_rises (s ∷ []) (suc i) r h lt is = absurd (omega (arith, lt))
range_rises (s ∷ t ∷ d) zero r h lt is = subst (λ (q : ℤ × ℤ). q.0 ≤ℤ q.1) (sym is) h.0
range_rises (s ∷ t ∷ d) (suc i) r h lt is = range_rises (t ∷ d) i r h.2 (omega (arith, lt)) is

pub range_within : (d : List (ℤ × ℤ)) (i : ℕ) (r : ℤ × ℤ) → AreWithinLimits d → i < length d → r ≡ get_or d i r → IsWithinLimits r.0 × IsWithinLimits r.1
range_within [] i r h lt is = absurd (omega (arith, lt))
range_within (s ∷ d) zero r h lt is = subst (λ (q : ℤ × ℤ). IsWithinLimits q.0 × IsWithinLimits q.1) (sym is) (h.0, h.1)
range_within (s ∷ d) (suc i) r h lt is = range_within d i r h.2 (omega (arith, lt)) is

pub any_default : (d : List (ℤ × ℤ)) (i : ℕ) (r x : ℤ × ℤ) → i < length d → r ≡ get_or d i x → r ≡ get_or d i r
any_default [] i r x lt is = absurd (omega (arith, lt))
any_default (s ∷ d) zero r x lt is = is
any_default (s ∷ d) (suc i) r x lt is = any_default d i r x (omega (arith, lt)) is

-- as the code computes it, where the place is within the range
pub value_sum : (low high from_low : ℤ) (place size distance : ℕ) → IsWithinLimits low → IsWithinLimits high → low ≤ℤ high → from_low ≡ to_z w32 (of_z w32 low)
    → distance ≡ nat_abs (to_z w32 (of_z w32 high) -ℤ to_z w32 (of_z w32 low)) → size ≡ distance → place < size + 1
    → (to_z w64 (of_z w64 (to_z w64 (of_z w64 from_low) +ℤ to_z w64 place)) ≡ low +ℤ pos place) × ((low +ℤ pos place) ≤ℤ high) × (place < range_size (low, high))
value_sum low high from_low place size distance of_low of_high rises is_low is_distance is_size small =
    let apart : to_z w32 (of_z w32 high) -ℤ to_z w32 (of_z w32 low) ≡ high -ℤ low = omega (arith, ints, of_low.0, of_low.1, of_high.0, of_high.1) in
    let far : distance ≡ nat_abs (high -ℤ low) = is_distance ∙ ap nat_abs apart in
    let within : (low +ℤ pos place) ≤ℤ high = omega (arith, ints, far, rises, is_size, small) in
    (omega (arith, ints, of_low.0, of_low.1, of_high.1, within, is_low), within, omega (arith, far, is_size, small))
