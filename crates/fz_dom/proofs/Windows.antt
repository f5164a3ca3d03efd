-- Words of another base, and the changes that keep the numbers of a word or of ranges.
use Rattle.std.proofs.Common.{◌≡◌, ℕ, ◌+◌, ◌-◌, ◌^◌, ◌<◌, ◌≤◌, ℤ, pos, ◌+ℤ◌, ◌-ℤ◌, ◌≤ℤ◌, ◌<ℤ◌, ◌⊎◌, inl, inr, List, [], ◌∷◌, length, refl, sym, ap, subst, ◌∙◌, arith}
use Rattle.std.specs.Prelude.{◌↔◌}
use Rattle.std.specs.Int.{bit_at}
use Rattle.std.specs.Int.Count.{ones}
use Rattle.std.proofs.lemmas.Int.{ints}
use Rattle.std.proofs.lemmas.Nat.Bits.{bit_at-zero}
use Rattle.fz_sets.specs.Sets.{AreRanges, IsInSet, set_size}
use Rattle.fz_dom.specs.Shape.{least, greatest}
use Rattle.fz_dom.specs.Places.{IsBit, bit_ranges}
use Rattle.fz_dom.specs.Heads.{head_set, IsHeadOf, IsWhole}
use Rattle.fz_dom.specs.Kept.{kept_ranges, IsKept}
use Rattle.fz_dom.specs.Wide.{IsPart}
use Rattle.fz_dom.specs.Changes.{IsChange, IsFromTo}
use Rattle.fz_dom.specs.declared.change.Change.{Change}
use Rattle.fz_dom.specs.declared.change.Change.TheVariants.{Same, Changed, Wiped}
use Rattle.fz_dom.specs.declared.head.Head.{Head}
use Rattle.fz_dom.proofs.Ranges.{lower_bound, greatest_is_in}
use Rattle.fz_dom.proofs.Places.{bits_read, bits_count}
use Rattle.fz_dom.proofs.Changes.{change_as, above_none, word_some, from_word, in_word, none_of_zero, plain_form, word_narrow, plain_when_wide}
use Rattle.fz_dom.proofs.Lists.{same_or_less}
use Rattle.fz_dom.proofs.Runs.{offset_in}
use Rattle.fz_dom.proofs.Kept.{filled_of}

-- ---- the same word from another base

pub far_word : (word : ℕ) (from to : ℤ) (i : ℕ) → i < 64 → ((from +ℤ pos 64) ≤ℤ to) ⊎ ((to +ℤ pos 64) ≤ℤ from) → (bit_at 0 i ≡ 1) ↔ IsBit from word (to +ℤ pos i)
far_word word from to i l far = (
  λ e. (let z = bit_at-zero i in absurd (omega arith)),
  λ b. absurd (let a = b.1 in let e = b.2 in elim far [ inl t ↦ omega (arith, ints) | inr t ↦ omega (arith, ints) ]),
)

pub down_word : (word new k : ℕ) (from to : ℤ) → word < 2 ^ 64 → to ≡ (from +ℤ pos k) → ((i : ℕ) → i < 64 → (bit_at new i ≡ 1) ↔ (bit_at word (i + k) ≡ 1))
    → (i : ℕ) → i < 64 → (bit_at new i ≡ 1) ↔ IsBit from word (to +ℤ pos i)
down_word word new k from to q d f i l = (
  λ e. (let b = (f i l).0 e in (i + k, above_none word (i + k) q b, omega (arith, ints), b)),
  λ m. (let e = m.2 in let s : m.0 ≡ i + k = omega (arith, ints) in (f i l).1 (subst (λ (n : ℕ). bit_at word n ≡ 1) s m.3)),
)

pub up_word : (word new k : ℕ) (from to : ℤ) → from ≡ (to +ℤ pos k) → ((i : ℕ) → i < 64 → (bit_at new i ≡ 1) ↔ ((k ≤ i) × (bit_at word (i - k) ≡ 1)))
    → (i : ℕ) → i < 64 → (bit_at new i ≡ 1) ↔ IsBit from word (to +ℤ pos i)
up_word word new k from to d f i l = (
  λ e. (let b = (f i l).0 e in let le = b.0 in (i - k, omega arith, omega (arith, ints), b.1)),
  λ m. (let e = m.2 in let s : m.0 ≡ i - k = omega (arith, ints) in (f i l).1 (omega (arith, ints), subst (λ (n : ℕ). bit_at word n ≡ 1) s m.3)),
)

-- ---- the word of a head

pub at_bits : (h : Head) (new : ℕ) (base b' base' : ℤ) → IsWhole h → 0 < h.bits → b' ≡ h.base → base' ≡ base
    → ((i : ℕ) → i < 64 → (bit_at new i ≡ 1) ↔ IsBit b' h.bits (base' +ℤ pos i))
    → (i : ℕ) → i < 64 → (bit_at new i ≡ 1) ↔ IsInSet (head_set h) (base +ℤ pos i)
at_bits h new base b' base' w p e q f i l =
    let g : (bit_at new i ≡ 1) ↔ IsBit h.base h.bits (base +ℤ pos i) =
    subst (λ (b : ℤ). (bit_at new i ≡ 1) ↔ IsBit b h.bits (base +ℤ pos i)) e (subst (λ (b : ℤ). (bit_at new i ≡ 1) ↔ IsBit b' h.bits (b +ℤ pos i)) q (f i l)) in
    (λ o. from_word h (base +ℤ pos i) w p (g.0 o), λ m. g.1 (in_word h (base +ℤ pos i) w p m))

pub at_none : (h : Head) (base : ℤ) → IsWhole h → h.size ≡ 0 → (i : ℕ) → i < 64 → (bit_at 0 i ≡ 1) ↔ IsInSet (head_set h) (base +ℤ pos i)
at_none h base w z i l = (λ e. (let b = bit_at-zero i in absurd (omega arith)), λ m. absurd (none_of_zero h w z (base +ℤ pos i) m))

pub at_plain : (h : Head) (new : ℕ) (base low high base' : ℤ) → h.bits ≡ 0 → 0 < h.size → low ≡ h.low → high ≡ h.high → base' ≡ base
    → ((i : ℕ) → i < 64 → (bit_at new i ≡ 1) ↔ ((low ≤ℤ (base' +ℤ pos i)) × ((base' +ℤ pos i) ≤ℤ high)))
    → (i : ℕ) → i < 64 → (bit_at new i ≡ 1) ↔ IsInSet (head_set h) (base +ℤ pos i)
at_plain h new base low high base' z p e g q f i l =
    let k = f i l in
    rw (plain_form h z p) (
      λ b. (let m = k.0 b in let m0 = m.0 in let m1 = m.1 in inl (omega (arith, ints), omega (arith, ints))),
      λ m. elim m [ inl j ↦ (let j0 = j.0 in let j1 = j.1 in k.1 (omega (arith, ints), omega (arith, ints))) | inr j ↦ absurd j ],
    )

pub word_as : (new : ℕ) (d e : List (ℤ × ℤ)) (b b' : ℤ) → d ≡ e → b' ≡ b → ((i : ℕ) → i < 64 → (bit_at new i ≡ 1) ↔ IsInSet d (b' +ℤ pos i))
    → (i : ℕ) → i < 64 → (bit_at new i ≡ 1) ↔ IsInSet e (b +ℤ pos i)
word_as new d e b b' p q f i l =
    subst (λ (s : List (ℤ × ℤ)). (bit_at new i ≡ 1) ↔ IsInSet s (b +ℤ pos i)) p (subst (λ (c : ℤ). (bit_at new i ≡ 1) ↔ IsInSet d (c +ℤ pos i)) q (f i l))

-- ---- changes that keep the numbers of ranges which all are members

pub none_stays : (d es : List (ℤ × ℤ)) → length es ≡ 0 → IsChange Wiped (λ x. IsInSet es x) d d
none_stays d [] e = (refl, λ x i m. m)
none_stays d (r ∷ es) e = absurd (omega (arith, e))

pub all_stay : (h : Head) (d es : List (ℤ × ℤ)) → IsHeadOf h d → AreRanges es → 0 < length es → set_size es ≡ h.size
    → ((x : ℤ) → IsInSet es x → IsInSet d x) → IsChange Same (λ x. IsInSet es x) d d
all_stay h d es k r p n f = elim (same_or_less d es k.are_ranges r f) [
  | inl e ↦ (refl, λ x i. subst (λ (l : List (ℤ × ℤ)). IsInSet l x) (sym e) i, subst (λ (l : List (ℤ × ℤ)). 0 < length l) e p)
  | inr l ↦ absurd (let s = k.size_is in omega arith)
]

pub some_leave : (h : Head) (d es : List (ℤ × ℤ)) → IsHeadOf h d → AreRanges es → 0 < length es → (set_size es ≡ h.size → ⊥)
    → ((x : ℤ) → IsInSet es x → IsInSet d x) → IsChange Changed (λ x. IsInSet es x) d es
some_leave h d es k r p n f = (
  λ x. (λ i. (f x i, i), λ m. m.1),
  elim (same_or_less d es k.are_ranges r f) [ inl e ↦ absurd (n (ap set_size e ∙ sym k.size_is)) | inr l ↦ l ],
  p,
)

-- ---- of a word

as_word : (change : Change) (base : ℤ) (word : ℕ) (d e : List (ℤ × ℤ)) → IsChange change (λ x. IsInSet (bit_ranges base word) x) d e → IsChange change (λ x. IsBit base word x) d e
as_word change base word d e c =
    let r = bits_read base word in
    change_as change (λ x. IsInSet (bit_ranges base word) x) (λ x. IsBit base word x) d e (λ x i. (λ m. r.to x m, λ m. r.from x m)) c

pub word_none : (base : ℤ) (word : ℕ) (d : List (ℤ × ℤ)) → word ≡ 0 → IsChange Wiped (λ x. IsBit base word x) d d
word_none base word d z = (refl, λ x i b. let o = subst (λ (n : ℕ). bit_at n b.0 ≡ 1) z b.3 in let e = bit_at-zero b.0 in omega arith)

pub word_all : (h : Head) (d : List (ℤ × ℤ)) (base : ℤ) (word : ℕ) → IsHeadOf h d → 0 < word → word < 2 ^ 64 → ones word ≡ h.size
    → ((x : ℤ) → IsBit base word x → IsInSet d x) → IsChange Same (λ x. IsBit base word x) d d
word_all h d base word k p q n f =
    let r = bits_read base word in
    as_word Same base word d d (all_stay h d (bit_ranges base word) k r.ranges (word_some base word p q) (bits_count base word q ∙ n) (λ x i. f x (r.to x i)))

pub word_some_leave : (h : Head) (d e : List (ℤ × ℤ)) (base : ℤ) (word : ℕ) → IsHeadOf h d → 0 < word → word < 2 ^ 64 → (ones word ≡ h.size → ⊥)
    → ((x : ℤ) → IsBit base word x → IsInSet d x) → e ≡ bit_ranges base word → IsChange Changed (λ x. IsBit base word x) d e
word_some_leave h d e base word k p q n f is =
    let r = bits_read base word in
    rw is (as_word Changed base word d (bit_ranges base word)
    (some_leave h d (bit_ranges base word) k r.ranges (word_some base word p q) (λ s. n (sym (bits_count base word q) ∙ s)) (λ x i. f x (r.to x i))))

-- ---- a word of some of them

-- where the ones of a word are those of another that are members too, its numbers are those of the other that are members
pub own_in : (d : List (ℤ × ℤ)) (b c : ℤ) (mine word own : ℕ) → c ≡ b → ((i : ℕ) → i < 64 → (bit_at mine i ≡ 1) ↔ IsInSet d (c +ℤ pos i))
    → ((i : ℕ) → i < 64 → (bit_at own i ≡ 1) ↔ ((bit_at mine i ≡ 1) × (bit_at word i ≡ 1))) → (x : ℤ) → IsBit b own x → IsInSet d x × IsBit b word x
own_in d b c mine word own p f g x m =
    let t = (g m.0 m.1).0 m.3 in
    let e = m.2 in
    let s : (c +ℤ pos m.0) ≡ x = omega (arith, ints) in
    (subst (λ (y : ℤ). IsInSet d y) s ((f m.0 m.1).0 t.0), (m.0, m.1, m.2, t.1))

pub in_own : (d : List (ℤ × ℤ)) (b c : ℤ) (mine word own : ℕ) → c ≡ b → ((i : ℕ) → i < 64 → (bit_at mine i ≡ 1) ↔ IsInSet d (c +ℤ pos i))
    → ((i : ℕ) → i < 64 → (bit_at own i ≡ 1) ↔ ((bit_at mine i ≡ 1) × (bit_at word i ≡ 1))) → (x : ℤ) → IsInSet d x → IsBit b word x → IsBit b own x
in_own d b c mine word own p f g x i m =
    let e = m.2 in
    let s : x ≡ (c +ℤ pos m.0) = omega (arith, ints) in
    (m.0, m.1, m.2, (g m.0 m.1).1 ((f m.0 m.1).1 (subst (λ (y : ℤ). IsInSet d y) s i), m.3))

-- the numbers of a word whose ones stand for members of a set below its base are these, moved up by the shift
pub moved_word : (o : List (ℤ × ℤ)) (b c shift x : ℤ) (word : ℕ) → c ≡ (b -ℤ shift) → ((i : ℕ) → i < 64 → (bit_at word i ≡ 1) ↔ IsInSet o (c +ℤ pos i))
    → (IsInSet o (x -ℤ shift) → (b ≤ℤ x) × (x ≤ℤ (b +ℤ pos 63))) → IsBit b word x ↔ IsInSet o (x -ℤ shift)
moved_word o b c shift x word p f inside = (
  λ m. (let e = m.2 in let s : (c +ℤ pos m.0) ≡ (x -ℤ shift) = omega (arith, ints) in subst (λ (y : ℤ). IsInSet o y) s ((f m.0 m.1).0 m.3)),
  λ i. (let r = inside i in let low = r.0 in let high = r.1 in let t = offset_in b x low in let e = t.1 in
      let l : t.0 < 64 = omega (arith, ints) in
      let s : (x -ℤ shift) ≡ (c +ℤ pos t.0) = omega (arith, ints) in
      (t.0, l, t.1, (f t.0 l).1 (subst (λ (y : ℤ). IsInSet o y) s i))),
)

-- ---- which form it is

pub word_is_narrow : (h : Head) (d : List (ℤ × ℤ)) → IsHeadOf h d → head_set h ≡ d → 0 < h.bits → greatest d ≤ℤ (least d +ℤ pos 63)
word_is_narrow h d k e p =
    let w : IsWhole h = subst (λ (l : List (ℤ × ℤ)). IsHeadOf h l) (sym e) k in
    let n = word_narrow h w p in let a = k.low_is in let b = k.high_is in omega (arith, ints)

pub ends_order : (d : List (ℤ × ℤ)) → AreRanges d → least d ≤ℤ greatest d
ends_order [] h = omega (arith, ints)
ends_order (r ∷ rs) h = lower_bound r rs (greatest (r ∷ rs)) h (greatest_is_in r rs h)

-- ---- from a low to a high, both moved

pub moved_interval : (o : List (ℤ × ℤ)) (low high shift a b x a' b' v u s t : ℤ) → o ≡ (low, high) ∷ [] → a ≡ a' → b ≡ b' → v ≡ low → u ≡ high → s ≡ shift → t ≡ shift
    → (a' ≤ℤ x) ↔ ((v +ℤ s) ≤ℤ x) → (x ≤ℤ b') ↔ (x ≤ℤ (u +ℤ t)) → IsFromTo a b x ↔ IsInSet o (x -ℤ shift)
moved_interval o low high shift a b x a' b' v u s t e ea eb ev eu es et f g = rw e (
  λ m. (let m0 = m.0 in let m1 = m.1 in let p = f.0 (omega (arith, ints)) in let q = g.0 (omega (arith, ints)) in inl (omega (arith, ints), omega (arith, ints))),
  λ i. elim i [
    | inl j ↦ (let p = j.0 in let q = j.1 in let l = f.1 (omega (arith, ints)) in let h = g.1 (omega (arith, ints)) in (omega (arith, ints), omega (arith, ints)))
    | inr j ↦ absurd j
  ],
)

-- ---- parts of lists that are kept in other forms

pub part_from : (ts' ts ms d es : List (ℤ × ℤ)) (s' s : ℤ) → ts' ≡ ts → ms ≡ d → s' ≡ s → IsPart (λ x. IsInSet ts' (x -ℤ s')) ms es → IsPart (λ x. IsInSet ts (x -ℤ s)) d es
part_from ts' ts ms d es s' s e f g h =
    subst (λ (l : List (ℤ × ℤ)). IsPart (λ x. IsInSet l (x -ℤ s)) d es) e
    (subst (λ (l : List (ℤ × ℤ)). IsPart (λ x. IsInSet ts' (x -ℤ s)) l es) f (subst (λ (z : ℤ). IsPart (λ x. IsInSet ts' (x -ℤ z)) ms es) g h))

pub part_change : (change : Change) (d o e es : List (ℤ × ℤ)) (s : ℤ) → IsPart (λ x. IsInSet o (x -ℤ s)) d es → IsChange change (λ x. IsInSet es x) d e
    → IsChange change (λ x. IsInSet o (x -ℤ s)) d e
part_change change d o e es s p h =
    change_as change (λ x. IsInSet es x) (λ x. IsInSet o (x -ℤ s)) d e (λ x i. (λ m. ((p.members x).0 m).1, λ m. (p.members x).1 (i, m))) h

pub one_range : (h : Head) (d : List (ℤ × ℤ)) → IsHeadOf h d → head_set h ≡ d → (least d +ℤ pos 63) <ℤ greatest d → (h.low, h.high) ∷ [] ≡ d
one_range h d k e lt =
    let w : IsWhole h = subst (λ (l : List (ℤ × ℤ)). IsHeadOf h l) (sym e) k in
    let a = k.low_is in let b = k.high_is in
    let l : 0 < length (head_set h) = subst (λ (l : List (ℤ × ℤ)). 0 < length l) (sym e) (filled_of d (omega (arith, ints))) in
    sym (plain_when_wide h w (omega (arith, ints)) l) ∙ e

pub list_is : (h : Head) (rest d : List (ℤ × ℤ)) → IsKept h rest → kept_ranges h rest ≡ d → (least d +ℤ pos 63) <ℤ greatest d → 2 ≤ length d → rest ≡ d
list_is h [] d k e lt n = absurd (let f : IsHeadOf h d = subst (λ (l : List (ℤ × ℤ)). IsHeadOf h l) e k.head in let t = ap length (one_range h d f e lt) in omega arith)
list_is h (r ∷ rs) d k e lt n = e

-- a shift of nothing
pub unmoved : (x : ℤ) → x -ℤ pos 0 ≡ x
unmoved x = omega (arith, ints)

pub as_unmoved : (change : Change) (o d e : List (ℤ × ℤ)) (c : ℤ) → c ≡ pos 0 → IsChange change (λ x. IsInSet o (x -ℤ c)) d e → IsChange change (λ x. IsInSet o x) d e
as_unmoved change o d e c z h =
    change_as change (λ x. IsInSet o (x -ℤ c)) (λ x. IsInSet o x) d e
    (λ x i. let s : (x -ℤ c) ≡ x = omega (arith, ints) in
    (λ m. subst (λ (y : ℤ). IsInSet o y) s m, λ m. subst (λ (y : ℤ). IsInSet o y) (sym s) m)) h
