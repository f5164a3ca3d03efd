-- Where the pieces of a block end, and what values they are.
use Rattle.std.proofs.Common.{◌≡◌, ℕ, zero, suc, ◌+◌, ◌-◌, ◌*◌, ◌/◌, ◌%◌, ◌^◌, min, ◌<◌, ◌≤◌, Bool, true, false, cond, not, List, [], ◌∷◌, ◌++◌, length, drop, codes, ℤ, pos, negsuc, ◌-ℤ◌, refl, sym, ap, ◌∙◌, arith, ne_eqb, append_assoc}
use Rattle.std.specs.Prelude.{decimal, nat_eq, flat_map}
use Rattle.std.specs.Fmt.{signed_decimal}
use Rattle.std.specs.List.{AllByRecursion, list_any}
use Rattle.std.proofs.lemmas.Bool.{or_parts, or_from}
use Rattle.std.proofs.lemmas.Fmt.{decimal_by_steps, decimal_nonempty}
use Rattle.std.proofs.lemmas.Int.{ints}
use Rattle.std.proofs.lemmas.List.{drop_at, length_push}
use Rattle.std.specs.Ordering.{int_eq}
use Rattle.fz_sets.specs.Sets.{IsWithinLimits}
use Rattle.fz_sets.proofs.Lists.{all_both}
use Rattle.fz_spec.specs.declared.kind.Kind.{Kind}
use Rattle.fz_spec.specs.declared.kind.Kind.TheVariants as kinds
use Rattle.fz_spec.specs.Run.{value_text, range_text, shape_text}
use Rattle.fz_model.specs.Kept.{IsIndexRange, IsNumberOf}
use Rattle.fz_shown.specs.Guesses.{after, is_among, length_before, magnitude, number_of, value_of}

-- none of the bytes is among these
abbrev pub AreFree : List ℕ → List ℕ → Type 0
AreFree ends bytes = AllByRecursion (λ (byte : ℕ). is_among ends byte ≡ false) bytes

-- of a text that is known
known_free : (ends bytes : List ℕ) → list_any (is_among ends) bytes ≡ false → AreFree ends bytes
known_free ends [] none = tt
known_free ends (b ∷ bs) none = let parts = or_parts (is_among ends b) (list_any (is_among ends) bs) none in (parts.0, known_free ends bs parts.1)

pub length_front : (ends front : List ℕ) (byte : ℕ) (rest : List ℕ) → AreFree ends front → is_among ends byte ≡ true → length_before ends (front ++ byte ∷ rest) ≡ length front
length_front ends [] byte rest free is = ap (λ (t : Bool). cond (not t) (1 + length_before ends rest) 0) is
length_front ends (b ∷ bs) byte rest free is =
    let later = length_front ends bs byte rest free.1 is in
    ap (λ (t : Bool). cond (not t) (1 + length_before ends (bs ++ byte ∷ rest)) 0) free.0 ∙ (let e : 1 + length_before ends (bs ++ byte ∷ rest) ≡ suc (length bs) = omega (arith, later) in e)

pub after_front : (byte : ℕ) (front rest : List ℕ) → AreFree (byte ∷ []) front → is_among (byte ∷ []) byte ≡ true → after byte (front ++ byte ∷ rest) ≡ rest
after_front byte front rest free is =
    ap (λ (n : ℕ). drop (n + 1) (front ++ byte ∷ rest)) (length_front (byte ∷ []) front byte rest free is)
    ∙ ap (drop (length front + 1)) (sym (append_assoc front (byte ∷ []) rest))
    ∙ drop_at (front ++ byte ∷ []) rest (length front + 1) (length_push front byte)

-- ---- decimals

-- a digit or a minus, or a byte between these
abbrev IsOfNumber : ℕ → Type 0
IsOfNumber byte = (44 < byte) × (byte < 58)

digit : (n : ℕ) → n < 10 → IsOfNumber (48 + n)
digit n small = (omega (arith, small), omega (arith, small))

decimal_bytes : (n : ℕ) → n < 2 ^ 64 → AllByRecursion IsOfNumber (decimal n)
decimal_bytes n small = decimal_by_steps (λ (k : ℕ) (ds : List ℕ). AllByRecursion IsOfNumber ds) (λ k one. (digit k one, tt))
    (λ k ds more all. all_both IsOfNumber ds ((48 + k % 10) ∷ []) all (digit (k % 10) (omega arith), tt)) n small

signed_bytes : (n : ℤ) → IsWithinLimits n → AllByRecursion IsOfNumber (signed_decimal n)
signed_bytes (pos n) within = decimal_bytes n (let high = within.1 in omega (arith, ints, high))
signed_bytes (negsuc n) within = ((omega arith, omega arith), decimal_bytes (suc n) (let low = within.0 in omega (arith, ints, low)))

-- bytes that stand elsewhere
abbrev AreElsewhere : List ℕ → Type 0
AreElsewhere ends = (byte : ℕ) → IsOfNumber byte → is_among ends byte ≡ false

free_number : (ends bytes : List ℕ) → AreElsewhere ends → AllByRecursion IsOfNumber bytes → AreFree ends bytes
free_number ends [] other all = tt
free_number ends (b ∷ bs) other all = (other b all.0, free_number ends bs other all.1)

marks_elsewhere : AreElsewhere (codes ",;]")
marks_elsewhere byte is = let low = is.0 in let high = is.1 in
    or_from (nat_eq 44 byte) _ (ne_eqb 44 byte (λ same. omega (arith, low, same))) (or_from (nat_eq 59 byte) _ (ne_eqb 59 byte (λ same. omega (arith, high, same))) (or_from (nat_eq 93 byte) _ (ne_eqb 93 byte (λ same. omega (arith, high, same))) refl))

bracket_elsewhere : AreElsewhere (91 ∷ [])
bracket_elsewhere byte is = let high = is.1 in or_from (nat_eq 91 byte) _ (ne_eqb 91 byte (λ same. omega (arith, high, same))) refl

-- ---- values

pub value_free : (kind : Kind) (x : ℤ) → IsNumberOf kind x → AreFree (codes ",;]") (value_text kind x)
value_free kinds.Bool x within = either (int_eq x (pos 0))
  where
    either : (t : Bool) → AreFree (codes ",;]") (cond t (codes "false") (codes "true"))
    either true = known_free (codes ",;]") (codes "false") refl
    either false = known_free (codes ",;]") (codes "true") refl
value_free kinds.Int x within = free_number (codes ",;]") (signed_decimal x) marks_elsewhere (signed_bytes x within)

-- a digit more
magnitude_more : (n d : ℕ) (digits : List ℕ) → magnitude n (digits ++ (48 + d) ∷ []) ≡ min (magnitude n digits * 10 + (48 + d - 48)) 2147483646
magnitude_more n d [] = refl
magnitude_more n d (b ∷ bs) = magnitude_more (min (n * 10 + (b - 48)) 2147483646) d bs

magnitude_decimal : (n : ℕ) → n ≤ 2147483646 → magnitude 0 (decimal n) ≡ n
magnitude_decimal n small = decimal_by_steps (λ (k : ℕ) (digits : List ℕ). k ≤ 2147483646 → magnitude 0 digits ≡ k)
    (λ k one fits. omega (arith, one, fits))
    (λ k digits more is fits. let before : magnitude 0 digits ≡ k / 10 = is (omega (arith, fits)) in magnitude_more 0 (k % 10) digits ∙ (let e : min (magnitude 0 digits * 10 + (48 + k % 10 - 48)) 2147483646 ≡ k = omega (arith, before, fits) in e))
    n (omega (arith, small)) small

-- digits don't begin with a minus
number_digits : (n : ℕ) (digits : List ℕ) → 0 < length digits → AllByRecursion (λ (byte : ℕ). 45 < byte) digits → magnitude 0 digits ≡ n → number_of digits ≡ pos n
number_digits n [] some high is = absurd (omega (arith, some))
number_digits n (b ∷ bs) some high is = let above = high.0 in
    ap (λ (t : Bool). cond t (pos 0 -ℤ pos (magnitude 0 bs)) (pos (magnitude 0 (b ∷ bs)))) (ne_eqb b 45 (λ same. omega (arith, above, same))) ∙ ap (λ (k : ℕ). pos k) is

decimal_high : (n : ℕ) → n < 2 ^ 64 → AllByRecursion (λ (byte : ℕ). 45 < byte) (decimal n)
decimal_high n small = decimal_by_steps (λ (k : ℕ) (ds : List ℕ). AllByRecursion (λ (byte : ℕ). 45 < byte) ds) (λ k one. (omega arith, tt))
    (λ k ds more all. all_both (λ (byte : ℕ). 45 < byte) ds ((48 + k % 10) ∷ []) all (omega arith, tt)) n small

number_signed : (n : ℤ) → IsWithinLimits n → number_of (signed_decimal n) ≡ n
number_signed (pos n) within = let high = within.1 in let small : n ≤ 2147483646 = omega (arith, ints, high) in
    number_digits n (decimal n) (decimal_nonempty n (omega (arith, small))) (decimal_high n (omega (arith, small))) (magnitude_decimal n small)
number_signed (negsuc n) within = let low = within.0 in let small : suc n ≤ 2147483646 = omega (arith, ints, low) in
    ap (λ (k : ℕ). pos 0 -ℤ pos k) (magnitude_decimal (suc n) small) ∙ (let e : pos 0 -ℤ pos (suc n) ≡ negsuc n = omega (arith, ints) in e)

pub value_told : (kind : Kind) (x : ℤ) → IsNumberOf kind x → value_of kind (value_text kind x) ≡ x
value_told kinds.Bool (pos zero) within = refl
value_told kinds.Bool (pos (suc zero)) within = refl
value_told kinds.Bool (pos (suc (suc n))) within = let high = within.1 in absurd (omega (arith, ints, high))
value_told kinds.Bool (negsuc n) within = let low = within.0 in absurd (omega (arith, ints, low))
value_told kinds.Int x within = number_signed x within

-- ---- shapes

range_free : (r : ℤ × ℤ) → IsIndexRange r → AreFree (91 ∷ []) (range_text r)
range_free r within = all_both _ (signed_decimal r.0 ++ codes "..") (signed_decimal r.1) (all_both _ (signed_decimal r.0) (codes "..") (free_number (91 ∷ []) (signed_decimal r.0) bracket_elsewhere (signed_bytes r.0 within.0)) (known_free (91 ∷ []) (codes "..") refl))
    (free_number (91 ∷ []) (signed_decimal r.1) bracket_elsewhere (signed_bytes r.1 within.1))

ranges_free : (shape : List (ℤ × ℤ)) → AllByRecursion IsIndexRange shape → AreFree (91 ∷ []) (flat_map (λ (r : ℤ × ℤ). range_text r ++ codes ", ") shape)
ranges_free [] within = tt
ranges_free (r ∷ rs) within = all_both _ (range_text r ++ codes ", ") _ (all_both _ (range_text r) (codes ", ") (range_free r within.0) (known_free (91 ∷ []) (codes ", ") refl)) (ranges_free rs within.1)

-- what stands after the shape of an array
pub after_shape : (shape : List (ℤ × ℤ)) (rest : List ℕ) → length shape ≤ 6 → AllByRecursion IsIndexRange shape → after 91 (shape_text shape ++ rest) ≡ rest
after_shape shape rest few within = ap (after 91) (append_assoc front (codes "[") rest) ∙ after_front 91 front rest free refl
  where
    head : List ℕ
    head = codes "array" ++ decimal (length shape)

    ranges : List ℕ
    ranges = flat_map (λ (r : ℤ × ℤ). range_text r ++ codes ", ") shape

    front : List ℕ
    front = head ++ codes "d(" ++ ranges

    free : AreFree (91 ∷ []) front
    free = all_both _ (head ++ codes "d(") ranges (all_both _ head (codes "d(") (all_both _ (codes "array") (decimal (length shape)) (known_free (91 ∷ []) (codes "array") refl) (free_number (91 ∷ []) (decimal (length shape)) bracket_elsewhere (decimal_bytes (length shape) (omega (arith, few))))) (known_free (91 ∷ []) (codes "d(") refl)) (ranges_free shape within)
