-- Numbers that fit, and the list of all variables.
use Rattle.std.proofs.Common.{◌≡◌, ℕ, zero, suc, ◌+◌, [], ◌∷◌, ◌++◌, sym, ap, subst, ◌∙◌, arith}
use Rattle.std.specs.Prelude.{ℤ, pos, negsuc, ◌+ℤ◌, ◌-ℤ◌, ◌≤ℤ◌}
use mir.Syntax.{w32, w64}
use mir.Val.{to_z, of_z}
use Rattle.std.specs.Int.{int_div_euclid}
use Rattle.std.specs.List.{range_with_len}
use Rattle.std.proofs.lemmas.Int.{ints}
use Rattle.fz_sets.specs.Sets.{GREATEST, LEAST, IsWithinLimits}

range_on : (a n : ℕ) → range_with_len a (suc n) ≡ range_with_len a n ++ (a + n) ∷ []
range_on a zero = ap (λ k. k ∷ []) (omega arith)
range_on a (suc n) = ap (λ l. a ∷ l) (range_on (a + 1) n ∙ ap (λ k. range_with_len (a + 1) n ++ k ∷ []) (omega arith))

pub range_more : (n : ℕ) → range_with_len 0 (n + 1) ≡ range_with_len 0 n ++ n ∷ []
range_more n =
    let next : n + 1 ≡ suc n = omega arith in
    let here : 0 + n ≡ n = omega arith in
    ap (range_with_len 0) next ∙ range_on 0 n ∙ ap (λ k. range_with_len 0 n ++ k ∷ []) here

-- half of the sum of two numbers within the limits is within 2^31
pub half_within : (sum : ℤ) → (LEAST +ℤ LEAST) ≤ℤ sum → sum ≤ℤ (GREATEST +ℤ GREATEST) → ((pos 0 -ℤ pos 2147483647) ≤ℤ int_div_euclid sum (pos 2)) × (int_div_euclid sum (pos 2) ≤ℤ pos 2147483647)
half_within (pos n) low high = (omega (arith, ints, high), omega (arith, ints, high))
half_within (negsuc n) low high = (omega (arith, ints, low), omega (arith, ints, low))

-- ---- as the code computes them

pub middle_code : (low high from_low from_high q : ℤ) → IsWithinLimits low → IsWithinLimits high → from_low ≡ to_z w32 (of_z w32 low) → from_high ≡ to_z w32 (of_z w32 high)
    → q ≡ int_div_euclid (to_z w64 (of_z w64 (to_z w64 (of_z w64 from_low) +ℤ to_z w64 (of_z w64 from_high)))) (pos 2)
    → to_z w32 (of_z w32 (to_z w64 (of_z w64 q))) ≡ int_div_euclid (low +ℤ high) (pos 2)
middle_code low high from_low from_high q of_low of_high is_low is_high is_q =
    let sum : to_z w64 (of_z w64 (to_z w64 (of_z w64 from_low) +ℤ to_z w64 (of_z w64 from_high))) ≡ low +ℤ high = omega (arith, ints, of_low.0, of_low.1, of_high.0, of_high.1, is_low, is_high) in
    let half : q ≡ int_div_euclid (low +ℤ high) (pos 2) = is_q ∙ ap (λ s. int_div_euclid s (pos 2)) sum in
    let within = half_within (low +ℤ high) (omega (arith, ints, of_low.0, of_high.0)) (omega (arith, ints, of_low.1, of_high.1)) in
    let least : (pos 0 -ℤ pos 2147483647) ≤ℤ q = subst (λ x. (pos 0 -ℤ pos 2147483647) ≤ℤ x) (sym half) within.0 in
    let greatest : q ≤ℤ pos 2147483647 = subst (λ x. x ≤ℤ pos 2147483647) (sym half) within.1 in
    let fits : to_z w32 (of_z w32 (to_z w64 (of_z w64 q))) ≡ q = omega (arith, ints, least, greatest) in
    fits ∙ half
