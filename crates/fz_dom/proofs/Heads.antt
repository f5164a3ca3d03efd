-- Heads from their parts, and what a word's ends are.
use Rattle.std.proofs.Common.{◌≡◌, ℕ, suc, ◌+◌, ◌/◌, ◌%◌, ◌^◌, ◌<◌, ◌≤◌, ℤ, pos, ◌+ℤ◌, ◌≤ℤ◌, List, [], ◌∷◌, length, inl, inr, sym, ap, subst, ◌∙◌, arith}
use Rattle.std.specs.Int.{bit_at, w64, trailing_zeros, leading_zeros}
use Rattle.std.specs.Int.Count.{ones}
use Rattle.std.proofs.lemmas.Int.{ints}
use Rattle.std.proofs.lemmas.Nat.{leading_top}
use Rattle.std.proofs.Math.Nat.{div-eq_of_lt-le, pow-suc}
use Rattle.std.proofs.lemmas.Nat.Bits.{bit_at-trailing_zeros, bit_at_above}
use Rattle.std.proofs.lemmas.Bool.Decides.{nat_tests, leb_tells}
use Rattle.fz_sets.specs.Sets.{AreRanges, AreWithinLimits, IsInSet, IsWithinLimits, LEAST, GREATEST}
use Rattle.fz_dom.specs.Shape.{least, greatest}
use Rattle.fz_dom.specs.Places.{bit_ranges}
use Rattle.fz_dom.specs.Heads.{head_ranges, IsHeadOf, IsWhole}
use Rattle.fz_dom.specs.declared.head.Head.{Head}
use Rattle.fz_dom.proofs.Ranges.{least_member, greatest_member}
use Rattle.fz_dom.proofs.Places.{bits_read, bits_count}

-- ---- which form it is

pub head_word : (l h b : ℤ) (n bits : ℕ) → 0 < bits → head_ranges l h b n bits ≡ bit_ranges b bits
head_word l h b n bits lt = grind (arith, nat_tests)

pub head_plain : (l h b : ℤ) (n bits : ℕ) → bits ≡ 0 → 0 < n → head_ranges l h b n bits ≡ (l, h) ∷ []
head_plain l h b n bits e lt = grind (arith, nat_tests)

-- ---- ends

pub filled : (rs : List (ℤ × ℤ)) (x : ℤ) → IsInSet rs x → 0 < length rs
filled [] x i = absurd i
filled (r ∷ rs) x i = omega arith

pub least_is : (rs : List (ℤ × ℤ)) (x : ℤ) → AreRanges rs → IsInSet rs x → ((y : ℤ) → IsInSet rs y → x ≤ℤ y) → x ≡ least rs
least_is rs x h i f =
    let m = least_member rs (filled rs x i) h in
    let a = f (least rs) m.0 in let b = m.1 x i in omega (arith, ints)

pub greatest_is : (rs : List (ℤ × ℤ)) (x : ℤ) → AreRanges rs → IsInSet rs x → ((y : ℤ) → IsInSet rs y → y ≤ℤ x) → x ≡ greatest rs
greatest_is rs x h i f =
    let m = greatest_member rs (filled rs x i) h in
    let a = f (greatest rs) m.0 in let b = m.1 x i in omega (arith, ints)

pub within_all : (rs : List (ℤ × ℤ)) → AreRanges rs → ((x : ℤ) → IsInSet rs x → IsWithinLimits x) → AreWithinLimits rs
within_all [] h f = tt
within_all (r ∷ []) h f = (f r.0 (inl (omega (arith, ints), h)), f r.1 (inl (h, omega (arith, ints))), tt)
within_all (r ∷ s ∷ rs) h f = (f r.0 (inl (omega (arith, ints), h.0)), f r.1 (inl (h.0, omega (arith, ints))), within_all (s ∷ rs) h.2 (λ x i. f x (inr i)))

-- ---- the lowest and the highest bit

pub lowest_bit : (bits : ℕ) → 0 < bits → bits < 2 ^ 64
    → (trailing_zeros w64 bits < 64) × (bit_at bits (trailing_zeros w64 bits) ≡ 1) × ((i : ℕ) → bit_at bits i ≡ 1 → trailing_zeros w64 bits ≤ i)
lowest_bit bits p q =
    let t = bit_at-trailing_zeros w64 bits p q in
    (t.0, t.1, λ i e. elim (leb_tells (trailing_zeros w64 bits) i) [ inl l ↦ l.1 | inr l ↦ (let z = t.2 i l.1 in absurd (omega arith)) ])

top_bit : (bits j : ℕ) → 2 ^ j ≤ bits → bits < 2 ^ suc j → bit_at bits j ≡ 1
top_bit bits j p q = let e : bits / 2 ^ j ≡ 1 = div-eq_of_lt-le {k = 1} (2 ^ j) (omega (arith, p)) (let r = pow-suc 2 j in omega (arith, q)) in ap (λ (x : ℕ). x % 2) e

pub highest_bit : (bits : ℕ) → 0 < bits → bits < 2 ^ 64
    → (j : ℕ) × (leading_zeros w64 bits + suc j ≡ 64) × (bit_at bits j ≡ 1) × ((i : ℕ) → bit_at bits i ≡ 1 → i ≤ j)
highest_bit bits p q =
    let t = leading_top 64 bits p q in
    (t.0, t.1, top_bit bits t.0 t.2 t.3, λ i e. elim (leb_tells i t.0) [ inl l ↦ l.1 | inr l ↦ (let z = bit_at_above bits (suc t.0) i t.3 (omega (arith, l.1)) in absurd (omega arith)) ])

-- ---- the numbers of a word

pub is_of_word : (h : Head) → LEAST ≤ℤ h.base → (h.base +ℤ pos 63) ≤ℤ GREATEST → 0 < h.bits → h.bits < 2 ^ 64
    → h.low ≡ (h.base +ℤ pos (trailing_zeros w64 h.bits)) → (h.high +ℤ pos (leading_zeros w64 h.bits)) ≡ (h.base +ℤ pos 63) → h.size ≡ ones h.bits
    → IsHeadOf h (bit_ranges h.base h.bits)
is_of_word h f g p q low high size =
    let rs = bit_ranges h.base h.bits in
    let r = bits_read h.base h.bits in
    let a = lowest_bit h.bits p q in
    let b = highest_bit h.bits p q in
    let low_in : IsInSet rs h.low = r.from h.low (trailing_zeros w64 h.bits, a.0, low, a.1) in
    let high_in : IsInSet rs h.high = r.from h.high (b.0, (let e = b.1 in omega arith), (let e = b.1 in omega (arith, ints)), b.2) in
    record {
      are_ranges = r.ranges;
      within = within_all rs r.ranges (λ x i. let m = r.to x i in let l = m.1 in let e = m.2 in (omega (arith, ints), omega (arith, ints)));
      low_is = least_is rs h.low r.ranges low_in (λ y i. let m = r.to y i in let e = m.2 in let le = a.2 m.0 m.3 in omega (arith, ints));
      high_is = greatest_is rs h.high r.ranges high_in (λ y i. let m = r.to y i in let e = m.2 in let le = b.3 m.0 m.3 in let s = b.1 in omega (arith, ints));
      size_is = size ∙ sym (bits_count h.base h.bits q);
      floor = f;
      ceiling = g;
      fits = q;
    }

pub whole_word : (h : Head) → 0 < h.bits → IsHeadOf h (bit_ranges h.base h.bits) → IsWhole h
whole_word h p w = subst (λ (rs : List (ℤ × ℤ)). IsHeadOf h rs) (sym (head_word h.low h.high h.base h.size h.bits p)) w
