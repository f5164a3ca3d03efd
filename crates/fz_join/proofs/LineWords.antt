-- The words of a line: what is read of a text that is printed.
use Rattle.std.proofs.Common.{◌≡◌, ℕ, suc, ◌+◌, ◌-◌, ◌*◌, ◌/◌, ◌%◌, ◌^◌, ◌<◌, ◌≤◌, Bool, true, false, cond, ◌&&◌, ltb, leb, List, [], ◌∷◌, ◌++◌, length, decimal, pos, negsuc, ℤ, ◌-ℤ◌, Option, Some, None, option_map, IfSome, refl, ap, ◌∙◌, arith, eq-eqb, ne_eqb, le-leb, lt-ltb, leb-true}
use Rattle.std.specs.Fmt.{signed_decimal}
use Rattle.std.proofs.lemmas.Fmt.{decimal_by_steps, decimal_nonempty}
use Rattle.std.proofs.lemmas.Int.{ints}
use Rattle.fz_sets.specs.Sets.{IsWithinLimits}
use Rattle.fz_runs.specs.PartRuns.{bound_text}
use Rattle.fz_join.specs.Machine.{after, word_of, magnitude, number_of, bound_of}
use Rattle.fz_join.proofs.LineBytes.{AreAbove}

pub after_front : (front rest : List ℕ) → after front (front ++ rest) ≡ Some rest
after_front [] rest = refl
after_front (b ∷ bs) rest = ap (λ (t : Bool). cond t (after bs (bs ++ rest)) None) (eq-eqb b b refl) ∙ after_front bs rest

-- here a word that stands before has its end
abbrev pub EndsWord : List ℕ → Type 0
EndsWord [] = Unit {0}
EndsWord (byte ∷ bytes) = byte ≡ 32

pub word_front : (word rest : List ℕ) → AreAbove 32 word → EndsWord rest → word_of (word ++ rest) ≡ (word, rest)
word_front [] [] above ends = refl
word_front [] (b ∷ bs) above ends = ap (λ (t : Bool). cond t ([], b ∷ bs) (b ∷ (word_of bs).0, (word_of bs).1)) (eq-eqb b 32 ends)
word_front (b ∷ bs) rest above ends =
    ap (λ (t : Bool). cond t ([], b ∷ (bs ++ rest)) (b ∷ (word_of (bs ++ rest)).0, (word_of (bs ++ rest)).1)) (ne_eqb b 32 (λ same. let high = above.0 in omega (arith, high, same)))
    ∙ ap (λ (words : List ℕ × List ℕ). (b ∷ words.0, words.1)) (word_front bs rest above.1 ends)

-- ---- numbers

-- a digit
abbrev is_next : ℕ → ℕ → Bool
is_next n b = leb 48 b && leb b 57 && ltb n (2 ^ 32)

magnitude_step : (n b : ℕ) (bs : List ℕ) → 48 ≤ b → b ≤ 57 → n < 2 ^ 32 → magnitude n (b ∷ bs) ≡ magnitude (n * 10 + (b - 48)) bs
magnitude_step n b bs low high small = ap (λ (t : Bool). cond (t && leb b 57 && ltb n (2 ^ 32)) (magnitude (n * 10 + (b - 48)) bs) None) (le-leb 48 b low)
    ∙ ap (λ (t : Bool). cond (t && ltb n (2 ^ 32)) (magnitude (n * 10 + (b - 48)) bs) None) (le-leb b 57 high)
    ∙ ap (λ (t : Bool). cond t (magnitude (n * 10 + (b - 48)) bs) None) (lt-ltb n (2 ^ 32) small)

-- a digit more
magnitude_more : (n k d : ℕ) (digits : List ℕ) → magnitude n digits ≡ Some k → d < 10 → k < 2 ^ 32 → magnitude n (digits ++ (48 + d) ∷ []) ≡ Some (k * 10 + d)
magnitude_more n k d [] is small fits = let same : n ≡ k = cc (is) in
    magnitude_step n (48 + d) [] (omega arith) (omega (arith, small)) (omega (arith, same, fits)) ∙ ap Some (let e : n * 10 + (48 + d - 48) ≡ k * 10 + d = omega (arith, same) in e)
magnitude_more n k d (b ∷ bs) is small fits = by (is_next n b) is (magnitude_more (n * 10 + (b - 48)) k d bs)
  where
    by : (t : Bool) → cond t (magnitude (n * 10 + (b - 48)) bs) None ≡ Some k
        → (magnitude (n * 10 + (b - 48)) bs ≡ Some k → d < 10 → k < 2 ^ 32 → magnitude (n * 10 + (b - 48)) (bs ++ (48 + d) ∷ []) ≡ Some (k * 10 + d))
        → cond t (magnitude (n * 10 + (b - 48)) (bs ++ (48 + d) ∷ [])) None ≡ Some (k * 10 + d)
    by true has rest = rest has small fits
    by false has rest = absurd (cc (has))

magnitude_decimal : (n : ℕ) → n < 2 ^ 32 → magnitude 0 (decimal n) ≡ Some n
magnitude_decimal n small = decimal_by_steps (λ (k : ℕ) (digits : List ℕ). k < 2 ^ 32 → magnitude 0 digits ≡ Some k)
    (λ k one fits. magnitude_step 0 (48 + k) [] (omega arith) (omega (arith, one)) (omega arith) ∙ ap Some (let e : 0 * 10 + (48 + k - 48) ≡ k = omega arith in e))
    (λ k digits more is fits. magnitude_more 0 (k / 10) (k % 10) digits (is (omega (arith, fits))) (omega arith) (omega (arith, fits)) ∙ ap Some (let e : k / 10 * 10 + k % 10 ≡ k = omega arith in e))
    n (omega (arith, small)) small

-- digits don't begin with a minus
number_digits : (n : ℕ) (digits : List ℕ) → 0 < length digits → magnitude 0 digits ≡ Some n → number_of digits ≡ Some (pos n)
number_digits n [] some is = absurd (omega (arith, some))
number_digits n (b ∷ bs) some is = ap (λ (t : Bool). cond t (option_map (λ (k : ℕ). pos 0 -ℤ pos k) (magnitude 0 bs)) (option_map (λ (k : ℕ). pos k) (magnitude 0 (b ∷ bs)))) (ne_eqb b 45 (λ same. minus same))
    ∙ ap (option_map (λ (k : ℕ). pos k)) is
  where
    by : (t : Bool) → leb 48 b ≡ t → cond (t && leb b 57 && ltb 0 (2 ^ 32)) (magnitude (0 * 10 + (b - 48)) bs) None ≡ Some n → 48 ≤ b
    by true tested has = leb-true 48 b tested
    by false tested has = absurd (cc (has))

    minus : b ≡ 45 → ⊥
    minus same = let low = by (leb 48 b) refl is in omega (arith, low, same)

pub number_signed : (n : ℤ) → IsWithinLimits n → number_of (signed_decimal n) ≡ Some n
number_signed (pos n) within = let high = within.1 in let small : n < 2 ^ 32 = omega (arith, ints, high) in number_digits n (decimal n) (decimal_nonempty n (omega (arith, small))) (magnitude_decimal n small)
number_signed (negsuc n) within = let low = within.0 in let small : suc n < 2 ^ 32 = omega (arith, ints, low) in
    ap (option_map (λ (k : ℕ). pos 0 -ℤ pos k)) (magnitude_decimal (suc n) small) ∙ ap Some (let e : pos 0 -ℤ pos (suc n) ≡ negsuc n = omega (arith, ints) in e)

pub bound_read : (bound : Option ℤ) → IfSome bound IsWithinLimits → bound_of (bound_text bound) ≡ Some bound
bound_read None within = refl
bound_read (Some v) within = ap (option_map Some) (number_signed v within)

pub bound_ends : (bound : Option ℤ) → EndsWord (bound_text bound)
bound_ends None = tt
bound_ends (Some v) = refl
