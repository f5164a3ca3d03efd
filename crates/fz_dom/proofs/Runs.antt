-- The ranges of a word, run by run.
use Rattle.std.proofs.Common.{◌≡◌, ℕ, zero, suc, ◌+◌, ◌-◌, ◌*◌, ◌/◌, ◌^◌, ◌<◌, ◌≤◌, ℤ, pos, ◌+ℤ◌, ◌-ℤ◌, ◌≤ℤ◌, inl, inr, List, [], ◌∷◌, length, length-drop, drop, get_or, refl, sym, ap, subst, ◌∙◌, arith}
use Rattle.std.specs.Prelude.{◌↔◌, nat_abs}
use Rattle.std.specs.Int.{bit_at}
use Rattle.std.proofs.lemmas.Int.{ints}
use Rattle.std.proofs.lemmas.Bool.Decides.{leb_tells}
use Rattle.std.proofs.lemmas.Nat.Bits.{bit_at-zero, bit_at_cat_low, bit_at_cat_high}
use Rattle.std.proofs.lemmas.Nat.{pow_pos}
use Rattle.fz_bits.proofs.Words.{lowered_bits, positive}
use Rattle.fz_sets.specs.Sets.{AreRanges, IsInSet, set_size}
use Rattle.fz_dom.specs.Places.{bit_ranges}
use Rattle.fz_dom.proofs.Ranges.{same_ranges, least_is_in}
use Rattle.std.specs.Int.Count.{ones-le}
use Rattle.fz_dom.proofs.Places.{bits_read, bits_count}
use Rattle.fz_dom.proofs.Lists.{prepend, dropped_at}

after_last : (rest first last i : ℕ) → last < i → (i ≡ last + 1 → ⊥) → last + 1 < i
after_last rest first last i l n = omega (arith, n)

pub offset_in : (b x : ℤ) → b ≤ℤ x → (i : ℕ) × (x ≡ (b +ℤ pos i))
offset_in b x le = (nat_abs (x -ℤ b), omega (arith, ints))

pub run_first : (base : ℤ) (word rest first last : ℕ) → first ≤ last → last < 64 → ((i : ℕ) → first ≤ i → i ≤ last → bit_at word i ≡ 1)
    → ((i : ℕ) → i < first → bit_at word i ≡ 0) → bit_at word (last + 1) ≡ 0
    → ((i : ℕ) → i < 64 → (bit_at rest i ≡ 1) ↔ ((bit_at word i ≡ 1) × (last < i)))
    → bit_ranges base word ≡ (base +ℤ pos first, base +ℤ pos last) ∷ bit_ranges base rest
run_first base word rest first last le below run before after f =
    let r = bits_read base word in
    let s = bits_read base rest in
    let h : AreRanges ((base +ℤ pos first, base +ℤ pos last) ∷ bit_ranges base rest) = prepend (base +ℤ pos first, base +ℤ pos last) (bit_ranges base rest) (omega (arith, ints)) s.ranges (λ x i.
    let m = s.to x i in
    let e = m.2 in
    let b = (f m.0 m.1).0 m.3 in
    let l = b.1 in
    let n : m.0 ≡ last + 1 → ⊥ = (λ q. let z = subst (λ (n : ℕ). bit_at word n ≡ 1) q b.0 in omega arith) in
    let o = after_last rest first last m.0 l n in
    omega (arith, ints)) in
    same_ranges (bit_ranges base word) ((base +ℤ pos first, base +ℤ pos last) ∷ bit_ranges base rest) r.ranges h
    (λ x. (
      λ i. (let m = r.to x i in let e = m.2 in
          elim (leb_tells m.0 last) [
            | inl t ↦ inl (elim (leb_tells first m.0) [
              | inl u ↦ (let a = t.1 in let b = u.1 in (omega (arith, ints), omega (arith, ints)))
              | inr u ↦ (let z = before m.0 u.1 in let o = m.3 in absurd (omega arith))
            ])
            | inr t ↦ inr (s.from x (m.0, m.1, m.2, (f m.0 m.1).1 (m.3, t.1)))
          ]),
      λ i. elim i [
        | inl j ↦ (let a = j.0 in let b = j.1 in let o = offset_in base x (omega (arith, ints)) in let e = o.1 in
            r.from x (o.0, omega (arith, ints), e, run o.0 (omega (arith, ints)) (omega (arith, ints))))
        | inr j ↦ (let m = s.to x j in r.from x (m.0, m.1, m.2, ((f m.0 m.1).0 m.3).0))
      ],
    ))

no_member : (rs : List (ℤ × ℤ)) → ((x : ℤ) → IsInSet rs x → ⊥) → AreRanges rs → length rs ≡ 0
no_member [] f h = refl
no_member (r ∷ rs) f h = absurd (f r.0 (least_is_in r rs h))

length_size : (rs : List (ℤ × ℤ)) → length rs ≤ set_size rs
length_size [] = omega arith
length_size (r ∷ rs) = let h = length_size rs in omega arith

pub none_of_word : (base : ℤ) (word : ℕ) → word ≡ 0 → length (bit_ranges base word) ≡ 0
none_of_word base word e = no_member (bit_ranges base word) (λ x i.
    let m = (bits_read base word).to x i in
    let b = subst (λ (n : ℕ). bit_at n m.0 ≡ 1) e m.3 in
    let z = bit_at-zero m.0 in omega arith) ((bits_read base word).ranges)

pub few_ranges : (base : ℤ) (word : ℕ) → word < 2 ^ 64 → length (bit_ranges base word) ≤ 64
few_ranges base word q = let a = length_size (bit_ranges base word) in let b = bits_count base word q in let c = ones-le 64 word q in omega arith

pub word_left : (base : ℤ) (word bits k : ℕ) → bit_ranges base word ≡ drop k (bit_ranges base bits) → k < length (bit_ranges base bits) → 0 < word
word_left base word bits k e l = positive word (λ z.
    let n = none_of_word base word z in
    let f = ap length e in
    let g = length-drop k (bit_ranges base bits) in omega arith)

drop_tail : (k : ℕ) (ys : List (ℤ × ℤ)) (r : ℤ × ℤ) (zs : List (ℤ × ℤ)) → drop k ys ≡ r ∷ zs → drop (suc k) ys ≡ zs
drop_tail zero [] r zs e = absurd (cc)
drop_tail (suc k) [] r zs e = absurd (cc)
drop_tail zero (y ∷ ys) r zs e = cc
drop_tail (suc k) (y ∷ ys) r zs e = drop_tail k ys r zs e

pub next_run : (base : ℤ) (word rest bits k : ℕ) (r : ℤ × ℤ) → bit_ranges base word ≡ drop k (bit_ranges base bits) → bit_ranges base word ≡ r ∷ bit_ranges base rest
    → bit_ranges base rest ≡ drop (k + 1) (bit_ranges base bits)
next_run base word rest bits k r e f =
    let n : suc k ≡ k + 1 = omega arith in
    subst (λ (i : ℕ). bit_ranges base rest ≡ drop i (bit_ranges base bits)) n (sym (drop_tail k (bit_ranges base bits) r (bit_ranges base rest) (sym e ∙ f)))

pub run_at : (ds rs : List (ℤ × ℤ)) (a b x y : ℤ) (k : ℕ) (es : List (ℤ × ℤ)) → drop k rs ≡ (x, y) ∷ es → ds ≡ rs → a ≡ x → b ≡ y → (a, b) ≡ get_or ds k (pos 0, pos 0)
run_at ds rs a b x y k es e f p q = rw (p, q, f) (sym (dropped_at k rs (x, y) es (pos 0, pos 0) e))

-- the bits of a word above a place, as a word
pub above_of : (word last : ℕ) → last < 64 → (rest : ℕ) × ((i : ℕ) → i < 64 → (bit_at rest i ≡ 1) ↔ ((bit_at word i ≡ 1) × (last < i)))
above_of word last l = (
  word / 2 ^ suc last * 2 ^ suc last + 0,
  λ i b. elim (leb_tells (suc last) i) [
    | inl t ↦ (rw (bit_at_cat_high (word / 2 ^ suc last) (suc last) 0 i (pow_pos (suc last)) t.1, lowered_bits word (suc last) (i - suc last))
        (let e : i - suc last + suc last ≡ i = omega (arith, t.1) in rw e (λ o. (o, omega (arith, t.1)), λ m. m.0)))
    | inr t ↦ (rw (bit_at_cat_low (word / 2 ^ suc last) (suc last) 0 i t.1, bit_at-zero i) (λ o. absurd (omega arith), λ m. absurd (omega (arith, t.1, m.1))))
  ],
)
