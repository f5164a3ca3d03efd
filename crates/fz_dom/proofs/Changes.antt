-- Changes of heads.
use Rattle.std.proofs.Common.{◌≡◌, ◌≢◌, ℕ, ◌^◌, ◌<◌, ◌≤◌, ℤ, pos, ◌+ℤ◌, ◌≤ℤ◌, ◌<ℤ◌, ◌⊎◌, inl, inr, List, [], ◌∷◌, length, refl, sym, subst, ◌∙◌, arith}
use Rattle.std.specs.Prelude.{◌↔◌}
use Rattle.std.specs.Int.{bit_at, w64, trailing_zeros}
use Rattle.std.specs.Int.{int_max, int_min}
use Rattle.std.proofs.lemmas.Int.{ints, clamps}
use Rattle.std.proofs.lemmas.Nat.Bits.{bit_at-zero, bit_at_above}
use Rattle.std.proofs.lemmas.Bool.Decides.{leb_tells}
use Rattle.fz_sets.specs.Sets.{IsInSet, LEAST, GREATEST, IsWithinLimits}
use Rattle.fz_dom.specs.Shape.{least, greatest, IsNextFrom}
use Rattle.fz_dom.specs.Places.{IsBit, bit_ranges}
use Rattle.fz_dom.specs.Heads.{head_set, IsHeadOf, IsWhole}
use Rattle.fz_dom.specs.Changes.{IsChange, IsFromTo}
use Rattle.fz_dom.specs.declared.change.Change.{Change}
use Rattle.fz_dom.specs.declared.change.Change.TheVariants.{Same, Changed, Wiped}
use Rattle.fz_dom.specs.declared.head.Head.{Head}
use Rattle.fz_dom.proofs.Ranges.{least_member, greatest_member, least_below, upper_bound, same_ranges, none_of_size, nonempty_of_size, within_limits}
use Rattle.fz_dom.proofs.Places.{bits_read, bits_count, ones_fall}
use Rattle.fz_dom.proofs.Heads.{head_word, head_plain, filled, lowest_bit}
use Rattle.fz_dom.proofs.Runs.{offset_in}
use Rattle.fz_bits.proofs.Words.{positive}

-- ---- changes by another property

pub change_as : (r : Change) (P Q : ℤ → Type 0) (d e : List (ℤ × ℤ)) → ((x : ℤ) → IsInSet d x → P x ↔ Q x) → IsChange r P d e → IsChange r Q d e
change_as Same P Q d e f c = (c.0, λ x i. (f x i).0 (c.1 x i), c.2)
change_as Changed P Q d e f c = (
  λ x. (
    λ i. (let h = (c.0 x).0 i in (h.0, (f x h.0).0 h.1)),
    λ h. (c.0 x).1 (h.0, (f x h.0).1 h.1),
  ),
  c.1,
  c.2,
)
change_as Wiped P Q d e f c = (c.0, λ x i q. c.1 x i ((f x i).1 q))

-- ---- of a word

pub word_form : (h : Head) → IsWhole h → 0 < h.bits → head_set h ≡ bit_ranges h.base h.bits
word_form h w p = head_word h.low h.high h.base h.size h.bits p

pub word_some : (base : ℤ) (bits : ℕ) → 0 < bits → bits < 2 ^ 64 → 0 < length (bit_ranges base bits)
word_some base bits p q =
    let a = lowest_bit bits p q in
    filled (bit_ranges base bits) (base +ℤ pos (trailing_zeros w64 bits)) ((bits_read base bits).from (base +ℤ pos (trailing_zeros w64 bits)) (trailing_zeros w64 bits, a.0, refl, a.1))

bits_some : (h : Head) → IsWhole h → 0 < h.bits → 0 < length (head_set h)
bits_some h w p = subst (λ (rs : List (ℤ × ℤ)). 0 < length rs) (sym (word_form h w p)) (word_some h.base h.bits p w.fits)

pub same_bits : (h : Head) (kept : ℕ) → IsWhole h → 0 < h.bits → kept ≡ h.bits → IsChange Same (λ x. IsBit h.base kept x) (head_set h) (head_set h)
same_bits h kept w p e = (
  refl,
  λ x i. subst (λ (b : ℕ). IsBit h.base b x) (sym e) ((bits_read h.base h.bits).to x (subst (λ (rs : List (ℤ × ℤ)). IsInSet rs x) (word_form h w p) i)),
  bits_some h w p,
)

pub above_none : (bits i : ℕ) → bits < 2 ^ 64 → bit_at bits i ≡ 1 → i < 64
above_none bits i q e = elim (leb_tells 64 i) [ inl t ↦ (let z = bit_at_above bits 64 i q t.1 in absurd (omega arith)) | inr t ↦ t.1 ]

pub fewer_bits : (base : ℤ) (bits kept : ℕ) → bits < 2 ^ 64 → kept < 2 ^ 64 → kept ≢ bits → 0 < kept
    → ((i : ℕ) → i < 64 → bit_at kept i ≡ 1 → bit_at bits i ≡ 1) → IsChange Changed (λ x. IsBit base kept x) (bit_ranges base bits) (bit_ranges base kept)
fewer_bits base bits kept p q n s f =
    let r = bits_read base bits in
    let t = bits_read base kept in (
      λ x. (
        λ i. (let m = t.to x i in (r.from x (m.0, m.1, m.2, f m.0 m.1 m.3), m)),
        λ h. t.from x h.1,
      ),
      (let a = bits_count base bits p in let b = bits_count base kept q in
          elim (ones_fall kept bits q p (λ i e. f i (above_none kept i q e) e)) [ inl e ↦ absurd (n e) | inr l ↦ omega arith ]),
      word_some base kept s q,
    )

pub changed_bits : (h k : Head) (kept : ℕ) → IsWhole h → 0 < h.bits → head_set k ≡ bit_ranges h.base kept → kept < 2 ^ 64 → kept ≢ h.bits → kept ≢ 0
    → ((i : ℕ) → i < 64 → bit_at kept i ≡ 1 → bit_at h.bits i ≡ 1) → IsChange Changed (λ x. IsBit h.base kept x) (head_set h) (head_set k)
changed_bits h k kept w p e q n s f =
    rw (e, word_form h w p) (fewer_bits h.base h.bits kept w.fits q n (omega (arith, s)) f)

-- ---- where the bits of a word lie

pub in_word : (h : Head) (x : ℤ) → IsWhole h → 0 < h.bits → IsInSet (head_set h) x → IsBit h.base h.bits x
in_word h x w p i = (bits_read h.base h.bits).to x (subst (λ (rs : List (ℤ × ℤ)). IsInSet rs x) (word_form h w p) i)

pub from_word : (h : Head) (x : ℤ) → IsWhole h → 0 < h.bits → IsBit h.base h.bits x → IsInSet (head_set h) x
from_word h x w p b = subst (λ (rs : List (ℤ × ℤ)). IsInSet rs x) (sym (word_form h w p)) ((bits_read h.base h.bits).from x b)

pub place_at : (h : Head) (v : ℤ) → IsWhole h → 0 < h.bits → h.low ≤ℤ v → v ≤ℤ h.high → (h.base ≤ℤ v) × (v ≤ℤ (h.base +ℤ pos 63))
place_at h v w p a b =
    let s = bits_some h w p in
    let l = in_word h (least (head_set h)) w p (least_member (head_set h) s w.are_ranges).0 in
    let g = in_word h (greatest (head_set h)) w p (greatest_member (head_set h) s w.are_ranges).0 in
    let c = w.low_is in let d = w.high_is in let e = l.2 in let f = g.2 in let n = g.1 in
    (omega (arith, ints), omega (arith, ints))

-- the bits of a word that are kept, by what they stand for
pub kept_by : (h : Head) (kept : ℕ) (R : ℕ → Type 0) (Q : ℤ → Type 0) → IsWhole h → 0 < h.bits
    → ((i : ℕ) → i < 64 → (bit_at kept i ≡ 1) ↔ ((bit_at h.bits i ≡ 1) × R i))
    → ((i : ℕ) (x : ℤ) → x ≡ (h.base +ℤ pos i) → R i ↔ Q x) → (x : ℤ) → IsInSet (head_set h) x → IsBit h.base kept x ↔ Q x
kept_by h kept R Q w p f g x m =
    let b = in_word h x w p m in (
      λ k. (let q = (f k.0 k.1).0 k.3 in (g k.0 x k.2).0 q.1),
      λ q. (b.0, b.1, b.2, (f b.0 b.1).1 (b.3, (g b.0 x b.2).1 q)),
    )

-- ---- ends and members

pub inside : (h : Head) → IsWhole h → (x : ℤ) → IsInSet (head_set h) x → (h.low ≤ℤ x) × (x ≤ℤ h.high)
inside h w x i =
    let a = least_below (head_set h) x w.are_ranges i in
    let b = upper_bound (head_set h) x w.are_ranges i in
    let c = w.low_is in let d = w.high_is in (omega (arith, ints), omega (arith, ints))

pub some_of_size : (h : Head) → IsWhole h → 0 < h.size → 0 < length (head_set h)
some_of_size h w p = nonempty_of_size (head_set h) (let e = w.size_is in omega arith)

pub none_of_zero : (h : Head) → IsWhole h → h.size ≡ 0 → (x : ℤ) → IsInSet (head_set h) x → ⊥
none_of_zero h w e = (none_of_size (head_set h) w.are_ranges).0 (let s = w.size_is in omega arith)

pub ends_in : (h : Head) → IsWhole h → 0 < h.size → IsInSet (head_set h) h.low × IsInSet (head_set h) h.high
ends_in h w p =
    let s = some_of_size h w p in (
      subst (λ (x : ℤ). IsInSet (head_set h) x) (sym w.low_is) (least_member (head_set h) s w.are_ranges).0,
      subst (λ (x : ℤ). IsInSet (head_set h) x) (sym w.high_is) (greatest_member (head_set h) s w.are_ranges).0,
    )

by_none : (n : ℕ) → (0 < n → ⊥) → n ≡ 0
by_none n f = omega (arith, f)

pub size_of_word : (h : Head) → IsWhole h → 0 < h.bits → 0 < h.size
size_of_word h w p =
    let s = bits_some h w p in
    positive h.size (λ e. none_of_zero h w e (least (head_set h)) (least_member (head_set h) s w.are_ranges).0)

-- ---- a part from a low to a high

pub from_to_part : (h : Head) (run kept first last : ℕ) (l u : ℤ) → IsWhole h → 0 < h.bits → l ≡ (h.base +ℤ pos first) → u ≡ (h.base +ℤ pos last)
    → ((i : ℕ) → i < 64 → (bit_at run i ≡ 1) ↔ ((first ≤ i) × (i ≤ last)))
    → ((i : ℕ) → i < 64 → (bit_at kept i ≡ 1) ↔ ((bit_at h.bits i ≡ 1) × (bit_at run i ≡ 1)))
    → (x : ℤ) → IsInSet (head_set h) x → IsBit h.base kept x ↔ IsFromTo l u x
from_to_part h run kept first last l u w p d e f g x i =
    kept_by h kept (λ i. (first ≤ i) × (i ≤ last)) (λ x. IsFromTo l u x) w p
    (λ i b. (λ k. (let m = (g i b).0 k in (m.0, (f i b).0 m.1)), λ m. (g i b).1 (m.0, (f i b).1 m.1)))
    (λ i x q. (λ m. (let a = m.0 in let b = m.1 in (omega (arith, ints), omega (arith, ints))), λ m. (let a = m.0 in let b = m.1 in (omega (arith, ints), omega (arith, ints)))))
    x i

pub from_to_rest : (h : Head) (run kept first last : ℕ) (l u : ℤ) → IsWhole h → 0 < h.bits → l ≡ (h.base +ℤ pos first) → u ≡ (h.base +ℤ pos last)
    → ((i : ℕ) → i < 64 → (bit_at run i ≡ 1) ↔ ((first ≤ i) × (i ≤ last)))
    → ((i : ℕ) → i < 64 → (bit_at kept i ≡ 1) ↔ ((bit_at h.bits i ≡ 1) × (bit_at run i ≡ 1 → ⊥)))
    → (x : ℤ) → IsInSet (head_set h) x → IsBit h.base kept x ↔ (IsFromTo l u x → ⊥)
from_to_rest h run kept first last l u w p d e f g x i =
    kept_by h kept (λ i. (first ≤ i) × (i ≤ last) → ⊥) (λ x. IsFromTo l u x → ⊥) w p
    (λ i b. (λ k. (let m = (g i b).0 k in (m.0, λ r. m.1 ((f i b).1 r))), λ m. (g i b).1 (m.0, λ r. m.1 ((f i b).0 r))))
    (λ i x q. (λ m n. m (let a = n.0 in let b = n.1 in (omega (arith, ints), omega (arith, ints))), λ m n. m (let a = n.0 in let b = n.1 in (omega (arith, ints), omega (arith, ints)))))
    x i

pub plain_form : (h : Head) → h.bits ≡ 0 → 0 < h.size → head_set h ≡ (h.low, h.high) ∷ []
plain_form h e p = head_plain h.low h.high h.base h.size h.bits e p

range_change : (a b l u : ℤ) → a ≤ℤ l → l ≤ℤ u → u ≤ℤ b → (a <ℤ l) ⊎ (u <ℤ b)
    → IsChange Changed (λ x. IsFromTo l u x) ((a, b) ∷ []) ((l, u) ∷ [])
range_change a b l u p q r s = (
  λ x. (
    λ i. elim i [ inl j ↦ (let c = j.0 in let d = j.1 in (inl (omega (arith, ints), omega (arith, ints)), j)) | inr j ↦ absurd j ],
    λ m. inl m.1,
  ),
  elim s [ inl t ↦ omega (arith, ints) | inr t ↦ omega (arith, ints) ],
  omega arith,
)

pub changed_plain : (h k : Head) (l u : ℤ) → IsWhole h → h.bits ≡ 0 → 0 < h.size → head_set k ≡ (l, u) ∷ [] → h.low ≤ℤ l → l ≤ℤ u → u ≤ℤ h.high
    → (h.low <ℤ l) ⊎ (u <ℤ h.high) → IsChange Changed (λ x. IsFromTo l u x) (head_set h) (head_set k)
changed_plain h k l u w e p f a b c s = rw (plain_form h e p, f) (range_change h.low h.high l u a b c s)

-- ---- a word for an interval

run_ranges : (base l u : ℤ) (first last bits : ℕ) → l ≡ (base +ℤ pos first) → u ≡ (base +ℤ pos last) → last < 64 → l ≤ℤ u
    → ((i : ℕ) → i < 64 → (bit_at bits i ≡ 1) ↔ ((first ≤ i) × (i ≤ last))) → bit_ranges base bits ≡ (l, u) ∷ []
run_ranges base l u first last bits d e lt le f =
    let r = bits_read base bits in
    same_ranges (bit_ranges base bits) ((l, u) ∷ []) r.ranges le
    (λ x. (
      λ i. (let m = r.to x i in let n = (f m.0 m.1).0 m.3 in let a = n.0 in let b = n.1 in let q = m.2 in inl (omega (arith, ints), omega (arith, ints))),
      λ i. elim i [
        | inl j ↦ (let a = j.0 in let b = j.1 in let o = offset_in base x (omega (arith, ints)) in let q = o.1 in
            let s : o.0 < 64 = omega (arith, ints) in
            r.from x (o.0, s, q, (f o.0 s).1 (omega (arith, ints), omega (arith, ints))))
        | inr j ↦ absurd j
      ],
    ))

pub run_some : (first last bits : ℕ) → last < 64 → first ≤ last → ((i : ℕ) → i < 64 → (bit_at bits i ≡ 1) ↔ ((first ≤ i) × (i ≤ last))) → 0 < bits
run_some first last bits lt le f =
    let b = (f first (omega arith)).1 (omega arith, le) in
    positive bits (λ e. let z = subst (λ (n : ℕ). bit_at n first ≡ 1) e b in let o = bit_at-zero first in omega arith)

pub same_in_bits : (h k : Head) (first last : ℕ) → IsWhole h → h.bits ≡ 0 → 0 < h.size → k.low ≡ h.low → k.high ≡ h.high → k.size ≡ h.size
    → LEAST ≤ℤ k.base → (k.base +ℤ pos 63) ≤ℤ GREATEST → k.bits < 2 ^ 64 → h.low ≡ (k.base +ℤ pos first) → h.high ≡ (k.base +ℤ pos last) → last < 64
    → ((i : ℕ) → i < 64 → (bit_at k.bits i ≡ 1) ↔ ((first ≤ i) × (i ≤ last))) → IsWhole k × (head_set k ≡ head_set h) × (0 < k.bits)
same_in_bits h k first last w e p low high size f g q d c lt b =
    let i = ends_in h w p in
    let le : h.low ≤ℤ h.high = (inside h w h.low i.0).1 in
    let some = run_some first last k.bits lt (omega (arith, ints)) b in
    let same : head_set k ≡ head_set h = head_word k.low k.high k.base k.size k.bits some ∙ run_ranges k.base h.low h.high first last k.bits d c lt le b ∙ sym (plain_form h e p) in (
      subst (λ (rs : List (ℤ × ℤ)). IsHeadOf k rs) (sym same) record {
        are_ranges = w.are_ranges;
        within = w.within;
        low_is = low ∙ w.low_is;
        high_is = high ∙ w.high_is;
        size_is = size ∙ w.size_is;
        floor = f;
        ceiling = g;
        fits = q;
      },
      same,
      some,
    )

-- ---- members of a word

pub bit_member : (h : Head) (v : ℤ) (k : ℕ) → IsWhole h → 0 < h.bits → v ≡ (h.base +ℤ pos k) → k < 64 → (bit_at h.bits k ≡ 1) ↔ IsInSet (head_set h) v
bit_member h v k w p e l = (
  λ b. from_word h v w p (k, l, e, b),
  λ i. (let m = in_word h v w p i in let q = m.2 in let n : m.0 ≡ k = omega (arith, ints) in subst (λ (j : ℕ). bit_at h.bits j ≡ 1) n m.3),
)

pub next_bit : (h : Head) (v y : ℤ) (k run above : ℕ) → IsWhole h → 0 < h.bits → v ≤ℤ h.high → v ≡ (h.base +ℤ pos k) → k < 64 → above < 2 ^ 64
    → ((i : ℕ) → i < 64 → (bit_at run i ≡ 1) ↔ ((k ≤ i) × (i ≤ 63)))
    → ((i : ℕ) → i < 64 → (bit_at above i ≡ 1) ↔ ((bit_at h.bits i ≡ 1) × (bit_at run i ≡ 1)))
    → (trailing_zeros w64 above < 64 → y ≡ (h.base +ℤ pos (trailing_zeros w64 above))) → IsNextFrom (head_set h) v y
next_bit h v y k run above w p le e l q f g is =
    let top = in_word h h.high w p (ends_in h w (size_of_word h w p)).1 in
    let te = top.2 in
    let high = (g top.0 top.1).1 (top.3, (f top.0 top.1).1 (omega (arith, ints), (let lt = top.1 in omega arith))) in
    let some : 0 < above = positive above (λ z. let b = subst (λ (n : ℕ). bit_at n top.0 ≡ 1) z high in let o = bit_at-zero top.0 in omega arith) in
    let t = lowest_bit above some q in
    let ye = is t.0 in
    let b = (g (trailing_zeros w64 above) t.0).0 t.1 in
    let r = (f (trailing_zeros w64 above) t.0).0 b.1 in
    let rl = r.0 in (
      from_word h y w p (trailing_zeros w64 above, t.0, ye, b.0),
      omega (arith, ints),
      λ z i m.
          let n = in_word h z w p i in
          let ne = n.2 in
          let nl = n.1 in
          let o = t.2 n.0 ((g n.0 n.1).1 (n.3, (f n.0 n.1).1 (omega (arith, ints), omega arith))) in
          omega (arith, ints),
    )

-- a part that was cut to the ends
pub part_from_to : (h k : Head) (r : Change) (l u a b : ℤ) → IsWhole h → a ≡ int_max l h.low → b ≡ int_min u h.high
    → IsChange r (λ x. IsFromTo a b x) (head_set h) (head_set k) → IsChange r (λ x. IsFromTo l u x) (head_set h) (head_set k)
part_from_to h k r l u a b w e f c =
    change_as r (λ x. IsFromTo a b x) (λ x. IsFromTo l u x) (head_set h) (head_set k)
    (λ x i. let p = inside h w x i in let q = p.0 in let s = p.1 in (
      λ m. (let n = m.0 in let o = m.1 in (omega (arith, ints, clamps), omega (arith, ints, clamps))),
      λ m. (let n = m.0 in let o = m.1 in (omega (arith, ints, clamps), omega (arith, ints, clamps))),
    )) c

pub low_within : (h : Head) → IsWhole h → 0 < h.size → IsWithinLimits h.low × (h.low ≤ℤ h.high) × IsWithinLimits h.high
low_within h w p =
    let e = ends_in h w p in
    (within_limits (head_set h) h.low w.within e.0, (inside h w h.low e.0).1, within_limits (head_set h) h.high w.within e.1)

-- the same change, its bounds written otherwise
pub cut_as : (r : Change) (l u l' u' : ℤ) (d e : List (ℤ × ℤ)) → IsChange r (λ x. IsFromTo l' u' x → ⊥) d e → l' ≡ l → u' ≡ u → IsChange r (λ x. IsFromTo l u x → ⊥) d e
cut_as r l u l' u' d e c p q =
    subst (λ (a : ℤ). IsChange r (λ x. IsFromTo a u x → ⊥) d e) p (subst (λ (b : ℤ). IsChange r (λ x. IsFromTo l' b x → ⊥) d e) q c)

-- a word is at most 64 wide
pub word_narrow : (h : Head) → IsWhole h → 0 < h.bits → h.high ≤ℤ (h.low +ℤ pos 63)
word_narrow h w p =
    let e = ends_in h w (size_of_word h w p) in
    let a = in_word h h.low w p e.0 in
    let b = in_word h h.high w p e.1 in
    let ae = a.2 in let be = b.2 in let bl = b.1 in
    omega (arith, ints)

pub plain_when_wide : (h : Head) → IsWhole h → (h.low +ℤ pos 63) <ℤ h.high → 0 < length (head_set h) → head_set h ≡ (h.low, h.high) ∷ []
plain_when_wide h w lt l =
    let none : h.bits ≡ 0 = by_none h.bits (λ p. let n = word_narrow h w p in omega (arith, ints)) in
    let some : 0 < h.size = positive h.size (λ z. none_of_zero h w z (least (head_set h)) (least_member (head_set h) l w.are_ranges).0) in
    plain_form h none some
