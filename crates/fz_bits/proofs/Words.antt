-- Operations on words, bit by bit.
use Rattle.std.proofs.Common.{◌≡◌, ℕ, zero, suc, ◌+◌, ◌-◌, ◌*◌, ◌^◌, ◌<◌, ◌≤◌, ◌%◌, ◌/◌, ◌⊎◌, inl, inr, min, max, refl, sym, ap, subst, ◌∙◌, arith, IsTrue}
use Rattle.std.specs.Prelude.{nat_eq, ◌↔◌, bit_and, bit_or, not}
use Rattle.std.specs.Int.{bit_at, bit_not, w64, trailing_zeros, trailing_ones}
use Rattle.std.proofs.lemmas.Bool.{cases_eq}
use Rattle.std.proofs.lemmas.Nat.{shr-shr, one_shl, pow_pos, and_mask, and_le_l}
use Rattle.std.proofs.lemmas.Nat.Bits.{bit_at-trailing_zeros, bit_at-trailing_ones, bit_at-lt, bit_at-zero, bit_at_and, bit_at_or, bit_at_not, and_pow, ones_shl, ones_shr, bit_at_mask_inside, bit_at_mask_below, bit_at_ones, bit_at_ones_above, bit_at_above, bit_at_cat_low, bit_at_cat_high, bit_at_set_same, bit_at_set_other, bit_at_clear_same, bit_at_clear_other}
use Rattle.std.proofs.lemmas.Bool.Decides.{leb_tells, nat_tests}
use Rattle.fz_bits.specs.Words.{HasBit, AreOnes}

min_one : (x y : ℕ) → x < 2 → y < 2 → (min x y ≡ 1) ↔ ((x ≡ 1) × (y ≡ 1))
min_one x y p q = (λ e. (omega arith, omega arith), λ h. let a = h.0 in let b = h.1 in omega arith)

max_one : (x y : ℕ) → x < 2 → y < 2 → (max x y ≡ 1) ↔ ((x ≡ 1) ⊎ (y ≡ 1))
max_one x y p q = (λ e. elim (leb_tells 1 x) [ inl t ↦ inl (omega (arith, t.1)) | inr t ↦ inr (omega (arith, t.1)) ], λ h. elim h [ inl a ↦ omega arith | inr b ↦ omega arith ])

pub and_bits : (a b i : ℕ) → (bit_at (bit_and a b) i ≡ 1) ↔ ((bit_at a i ≡ 1) × (bit_at b i ≡ 1))
and_bits a b i = rw (bit_at_and a b i) (min_one (bit_at a i) (bit_at b i) (bit_at-lt a i) (bit_at-lt b i))

pub or_bits : (a b i : ℕ) → (bit_at (bit_or a b) i ≡ 1) ↔ ((bit_at a i ≡ 1) ⊎ (bit_at b i ≡ 1))
or_bits a b i = rw (bit_at_or a b i) (max_one (bit_at a i) (bit_at b i) (bit_at-lt a i) (bit_at-lt b i))

not_one : (x : ℕ) → x < 2 → (1 - x ≡ 1) ↔ (x ≡ 1 → ⊥)
not_one x p = (λ e f. omega arith, λ n. omega (arith, n))

not_bits : (b i : ℕ) → b < 2 ^ 64 → i < 64 → (bit_at (bit_not w64 b) i ≡ 1) ↔ (bit_at b i ≡ 1 → ⊥)
not_bits b i p q = rw (bit_at_not w64 b i p q) (not_one (bit_at b i) (bit_at-lt b i))

pub without_bits : (a b i : ℕ) → b < 2 ^ 64 → i < 64 → (bit_at (bit_and a (bit_not w64 b)) i ≡ 1) ↔ ((bit_at a i ≡ 1) × (bit_at b i ≡ 1 → ⊥))
without_bits a b i p q =
    let f = and_bits a (bit_not w64 b) i in
    let g = not_bits b i p q in
    (λ e. let h = f.0 e in (h.0, g.0 h.1), λ h. f.1 (h.0, g.1 h.1))

from_bits : (k i : ℕ) → k < 64 → i < 64 → (bit_at ((2 ^ 64 - 1) * 2 ^ k % 2 ^ 64) i ≡ 1) ↔ (k ≤ i)
from_bits k i p q = rw (ones_shl 64 k (omega (arith, p))) (elim (leb_tells k i) [
  | inl t ↦ (λ e. t.1, λ l. bit_at_mask_inside k 64 i l q)
  | inr t ↦ (λ e. let z = bit_at_mask_below k 64 i t.1 in absurd (omega arith), λ l. absurd (omega (arith, t.1)))
])

to_bits : (k i : ℕ) → k < 64 → (bit_at ((2 ^ 64 - 1) / 2 ^ (63 - k)) i ≡ 1) ↔ (i ≤ k)
to_bits k i p =
    let e : 64 - (63 - k) ≡ suc k = omega arith in
    rw (ones_shr 64 (63 - k) (omega arith), e) (elim (leb_tells i k) [
      | inl t ↦ (λ e. t.1, λ l. bit_at_ones (suc k) i (omega (arith, l)))
      | inr t ↦ (λ e. let z = bit_at_ones_above (suc k) i (omega (arith, t.1)) in absurd (omega arith), λ l. absurd (omega (arith, t.1)))
    ])

pub run_bits : (f l i : ℕ) → f < 64 → l < 64 → i < 64 → (bit_at (bit_and ((2 ^ 64 - 1) * 2 ^ f % 2 ^ 64) ((2 ^ 64 - 1) / 2 ^ (63 - l))) i ≡ 1) ↔ ((f ≤ i) × (i ≤ l))
run_bits f l i p q r =
    let a = and_bits ((2 ^ 64 - 1) * 2 ^ f % 2 ^ 64) ((2 ^ 64 - 1) / 2 ^ (63 - l)) i in
    let b = from_bits f i p r in
    let c = to_bits l i q in
    (λ e. let h = a.0 e in (b.0 h.0, c.0 h.1), λ h. a.1 (b.1 h.0, c.1 h.1))

shifted : (a k i : ℕ) → bit_at (a * 2 ^ k + 0) i ≡ bit_at (a * 2 ^ k) i
shifted a k i = let e : a * 2 ^ k + 0 ≡ a * 2 ^ k = omega arith in ap (λ (x : ℕ). bit_at x i) e

pub lowered_bits : (a k i : ℕ) → bit_at (a / 2 ^ k) i ≡ bit_at a (i + k)
lowered_bits a k i = let e : k + i ≡ i + k = omega arith in ap (λ (x : ℕ). x % 2) (shr-shr a k i) ∙ ap (λ (x : ℕ). bit_at a x) e

mod_bit : (n i : ℕ) → i < 64 → bit_at (n % 2 ^ 64) i ≡ bit_at n i
mod_bit n i q =
    ap (λ (x : ℕ). bit_at x i) (sym (and_mask n 64)) ∙ bit_at_and n (2 ^ 64 - 1) i
    ∙ ap (λ (x : ℕ). min (bit_at n i) x) (bit_at_ones 64 i q) ∙ (let l = bit_at-lt n i in omega arith)

pub raised_bits : (a k i : ℕ) → k < 64 → i < 64 → (bit_at (a * 2 ^ k % 2 ^ 64) i ≡ 1) ↔ ((k ≤ i) × (bit_at a (i - k) ≡ 1))
raised_bits a k i p q = rw (mod_bit (a * 2 ^ k) i q, sym (shifted a k i)) (elim (leb_tells k i) [
  | inl t ↦ rw (bit_at_cat_high a k 0 i (pow_pos k) t.1) (λ e. (t.1, e), λ h. h.1)
  | inr t ↦ rw (bit_at_cat_low a k 0 i t.1, bit_at-zero i) (λ e. absurd (omega arith), λ h. absurd (omega (arith, t.1, h.0)))
])

by_test : (b p : ℕ) → b < 2 → 0 < p → IsTrue (not (nat_eq (b * p) 0)) ↔ (b ≡ 1)
by_test zero p l q = (λ e. absurd (grind (arith, nat_tests)), λ e. absurd (omega arith))
by_test (suc zero) p l q = (λ e. refl, λ e. grind (arith, nat_tests))
by_test (suc (suc b)) p l q = absurd (omega (arith, l))

pub test_bit : (n k : ℕ) → bit_at n k < 2 → IsTrue (not (nat_eq (bit_and n (2 ^ k)) 0)) ↔ (bit_at n k ≡ 1)
test_bit n k l = rw (and_pow n k) (by_test (bit_at n k) (2 ^ k) l (pow_pos k))

pub test_bit_of : (n k : ℕ) → k < 64 → IsTrue (not (nat_eq (bit_and n (1 * 2 ^ k % 2 ^ 64)) 0)) ↔ (bit_at n k ≡ 1)
test_bit_of n k l =
    let e : 1 * 2 ^ k % 2 ^ 64 ≡ 2 ^ k = one_shl k 64 l in
    rw e (test_bit n k (bit_at-lt n k))

pub lowered_iff : (a k i : ℕ) → (bit_at (a / 2 ^ k) i ≡ 1) ↔ (bit_at a (i + k) ≡ 1)
lowered_iff a k i = rw (lowered_bits a k i) (λ e. e, λ e. e)

-- ---- the first run

pub first_bit : (word : ℕ) → 0 < word → word < 2 ^ 64 → (trailing_zeros w64 word < 64) × (bit_at word (trailing_zeros w64 word) ≡ 1) × ((i : ℕ) → i < trailing_zeros w64 word → bit_at word i ≡ 0)
first_bit word p q = bit_at-trailing_zeros w64 word p q

pub whole_run : (word rest t : ℕ) → word < 2 ^ 64 → ((i : ℕ) → i < 64 → (bit_at rest i ≡ 1) ↔ (bit_at word (i + t) ≡ 1)) → rest ≡ 2 ^ 64 - 1 → (t ≡ 0) × ((i : ℕ) → i ≤ 63 → bit_at word i ≡ 1)
whole_run word rest t q f e =
    let top = (f 63 (omega arith)).0 (subst (λ (n : ℕ). bit_at n 63 ≡ 1) (sym e) (bit_at_ones 64 63 (omega arith))) in
    let z : t ≡ 0 = elim (leb_tells 64 (63 + t)) [ inl l ↦ (let n = bit_at_above word 64 (63 + t) q l.1 in absurd (omega arith)) | inr l ↦ omega (arith, l.1) ] in (
      z,
      λ i l. let b = (f i (omega arith)).0 (subst (λ (n : ℕ). bit_at n i ≡ 1) (sym e) (bit_at_ones 64 i (omega arith))) in
          let s : i + t ≡ i = omega arith in subst (λ (n : ℕ). bit_at word n ≡ 1) s b,
    )

pub positive : (n : ℕ) → (n ≡ 0 → ⊥) → 0 < n
positive n f = omega (arith, f)

none_one : (n : ℕ) → n < 2 → (n ≡ 1 → ⊥) → n ≡ 0
none_one n l f = omega (arith, f)

pub record IsRun (word first last : ℕ) : Type 0 where
  pub order : first ≤ last
  pub below : last < 64
  pub run : (i : ℕ) → first ≤ i → i ≤ last → bit_at word i ≡ 1
  pub none_after : bit_at word (last + 1) ≡ 0

pub part_run : (word rest t : ℕ) → 0 < word → word < 2 ^ 64 → rest < 2 ^ 64 → t ≡ trailing_zeros w64 word
    → ((i : ℕ) → i < 64 → (bit_at rest i ≡ 1) ↔ (bit_at word (i + t) ≡ 1)) → (rest ≡ 2 ^ 64 - 1 → ⊥)
    → (0 < trailing_ones w64 rest) × IsRun word t (t + trailing_ones w64 rest - 1)
part_run word rest t p q r et f n =
    let b = first_bit word p q in
    let o = bit_at-trailing_ones w64 rest (omega (arith, n)) in
    let low : bit_at rest 0 ≡ 1 = (f 0 (omega arith)).1 (subst (λ (n : ℕ). bit_at word n ≡ 1) (sym et ∙ (let s : t ≡ 0 + t = omega arith in s)) b.1) in
    let some : 0 < trailing_ones w64 rest = positive (trailing_ones w64 rest) (λ z. let v = subst (λ (n : ℕ). bit_at rest n ≡ 0) z o.1 in omega arith) in
    let k = trailing_ones w64 rest in
    let top = (f (k - 1) (let l = o.0 in omega arith)).0 (o.2 (k - 1) (omega arith)) in
    let below : t + k - 1 < 64 = elim (leb_tells 64 (k - 1 + t)) [ inl l ↦ (let n = bit_at_above word 64 (k - 1 + t) q l.1 in absurd (omega arith)) | inr l ↦ omega (arith, l.1) ] in (
      some,
      record {
        order = omega arith;
        below = below;
        run = λ i g l. (let c = (f (i - t) (omega arith)).0 (o.2 (i - t) (omega arith)) in let s : i - t + t ≡ i = omega arith in subst (λ (n : ℕ). bit_at word n ≡ 1) s c);
        none_after = elim (leb_tells 64 (t + k)) [
          | inl l ↦ bit_at_above word 64 (t + k - 1 + 1) q (omega (arith, l.1))
          | inr l ↦ none_one (bit_at word (t + k - 1 + 1)) (bit_at-lt word (t + k - 1 + 1)) (λ one.
              let s : t + k - 1 + 1 ≡ k + t = omega arith in
              let c = (f k o.0).1 (subst (λ (n : ℕ). bit_at word n ≡ 1) s one) in let z = o.1 in omega arith)
        ];
      },
    )

-- ---- one bit

pub bit_more : (word k : ℕ) → k < 64 → AreOnes (bit_or word (1 * 2 ^ k % 2 ^ 64)) (λ i. HasBit word i ⊎ (i ≡ k))
bit_more word k small = λ i l. elim (cases_eq i k) [
  | inl e ↦ ((λ h. inr e), (λ h. ap (bit_at (bit_or word (1 * 2 ^ k % 2 ^ 64))) e ∙ bit_at_set_same w64 word k small))
  | inr ne ↦
      let kept = bit_at_set_other w64 word k small i ne in
      ((λ h. inl (sym kept ∙ h)), (λ h. elim h [ inl old ↦ kept ∙ old | inr e ↦ absurd (ne e) ]))
]

pub bit_less : (word k : ℕ) → k < 64 → AreOnes (bit_and word (bit_not w64 (1 * 2 ^ k % 2 ^ 64))) (λ i. HasBit word i × (i ≡ k → ⊥))
bit_less word k small = λ i l. elim (cases_eq i k) [
  | inl e ↦
      let none = ap (bit_at (bit_and word (bit_not w64 (1 * 2 ^ k % 2 ^ 64)))) e ∙ bit_at_clear_same w64 word k small in
      ((λ h. absurd (omega (arith, h, none))), (λ h. absurd (h.1 e)))
  | inr ne ↦
      let kept = bit_at_clear_other w64 word k small i l ne in
      ((λ h. (sym kept ∙ h, ne)), (λ h. kept ∙ h.0))
]

pub falls : (word k : ℕ) → k < 64 → HasBit word k → bit_and word (bit_not w64 (1 * 2 ^ k % 2 ^ 64)) < word
falls word k small one =
    let new = bit_and word (bit_not w64 (1 * 2 ^ k % 2 ^ 64)) in
    let few : new ≤ word = and_le_l word (bit_not w64 (1 * 2 ^ k % 2 ^ 64)) in
    let none : bit_at new k ≡ 0 = bit_at_clear_same w64 word k small in
    elim (cases_eq new word) [
      | inl e ↦ absurd (let same : bit_at new k ≡ bit_at word k = ap (λ (x : ℕ). bit_at x k) e in omega (arith, none, same, one))
      | inr ne ↦ omega (arith, few, ne)
    ]
