-- Domains from what is kept of them.
use Rattle.std.proofs.Common.{◌≡◌, ℕ, zero, suc, ◌-◌, ◌^◌, ◌<◌, ◌≤◌, ℤ, pos, ◌+ℤ◌, ◌-ℤ◌, ◌≤ℤ◌, ◌<ℤ◌, ◌⊎◌, inl, inr, List, [], ◌∷◌, length, get_or, refl, sym, ap, subst, ◌∙◌, arith}
use Rattle.std.specs.Prelude.{◌↔◌, MatchOption, Option, Some, None}
use Rattle.std.specs.Int.{bit_at}
use mir.Val.{SFits}
use mir.Syntax.{w32}
use Rattle.std.proofs.lemmas.Int.{ints, clamps}
use Rattle.std.specs.Int.{int_min, int_max}
use Rattle.std.proofs.lemmas.Nat.Bits.{bit_at-zero}
use Rattle.fz_sets.specs.Sets.{AreRanges, AreWithinLimits, IsInSet, set_size, LEAST, GREATEST}
use Rattle.fz_dom.specs.Shape.{IsDomain, least, greatest, IsNextFrom, IsNoneFrom, IsNextAbove, IsNoneAbove}
use Rattle.fz_dom.specs.Places.{bit_ranges}
use Rattle.fz_dom.specs.Heads.{head_set, IsHeadOf, IsWhole}
use Rattle.fz_dom.specs.Kept.{kept_ranges, IsKept}
use Rattle.fz_dom.specs.Wide.{IsPart}
use Rattle.fz_dom.specs.Changes.{IsChange, IsFromTo}
use Rattle.fz_dom.specs.declared.change.Change.TheVariants.{Changed}
use Rattle.fz_dom.specs.declared.head.Head.{Head}
use Rattle.fz_dom.proofs.Ranges.{same_ranges, least_member, greatest_member, within_limits, none_of_size, nonempty_of_size}
use Rattle.fz_dom.proofs.Heads.{head_word, filled}
use Rattle.fz_dom.proofs.Places.{bits_read}
use Rattle.fz_dom.proofs.Runs.{offset_in}
use Rattle.fz_bits.proofs.Words.{positive}
use Rattle.fz_dom.proofs.Lists.{same_or_less, outside}
use Rattle.fz_sets.proofs.Sizes.{size_of_one}

-- ---- which form it is

pub small_ranges : (h : Head) (rest : List (ℤ × ℤ)) → rest ≡ [] → kept_ranges h rest ≡ head_set h
small_ranges h rest e = rw e refl

pub wide_ranges : (h : Head) (rest : List (ℤ × ℤ)) → 0 < length rest → kept_ranges h rest ≡ rest
wide_ranges h [] l = absurd (omega (arith, l))
wide_ranges h (r ∷ rs) l = refl

pub small_whole : (h : Head) (rest : List (ℤ × ℤ)) → rest ≡ [] → IsKept h rest → IsWhole h
small_whole h rest e k = subst (λ (rs : List (ℤ × ℤ)). IsHeadOf h rs) (small_ranges h rest e) k.head

pub small_kept : (h : Head) (rest : List (ℤ × ℤ)) → rest ≡ [] → IsWhole h → IsKept h rest
small_kept h rest e w = record { head = subst (λ (rs : List (ℤ × ℤ)). IsHeadOf h rs) (sym (small_ranges h rest e)) w; wide = inl e }

pub nil_of : (rest : List (ℤ × ℤ)) → length rest ≡ 0 → rest ≡ []
nil_of [] e = refl
nil_of (r ∷ rs) e = absurd (omega (arith, e))

-- what the invariant of a domain says of its ranges
pub domain_of : (h : Head) (rest : List (ℤ × ℤ)) → IsKept h rest → IsDomain (kept_ranges h rest)
domain_of h rest k = (k.head.are_ranges, k.head.within)

-- ---- settled

pub word_same : (h : Head) (rs : List (ℤ × ℤ)) → AreRanges rs → 0 < h.bits → ((x : ℤ) → IsInSet rs x → (h.base ≤ℤ x) × (x ≤ℤ (h.base +ℤ pos 63)))
    → ((i : ℕ) → i < 64 → (bit_at h.bits i ≡ 1) ↔ IsInSet rs (h.base +ℤ pos i)) → head_set h ≡ rs
word_same h rs k p f g = head_word h.low h.high h.base h.size h.bits p ∙ same_ranges (bit_ranges h.base h.bits) rs (bits_read h.base h.bits).ranges k (λ x. (
  λ i. (let m = (bits_read h.base h.bits).to x i in subst (λ (y : ℤ). IsInSet rs y) (sym m.2) ((g m.0 m.1).0 m.3)),
  λ i. (let p = f x i in let a = p.0 in let b = p.1 in let o = offset_in h.base x a in
      let l : o.0 < 64 = (let e = o.1 in omega (arith, ints)) in
      (bits_read h.base h.bits).from x (o.0, l, o.1, (g o.0 l).1 (subst (λ (y : ℤ). IsInSet rs y) o.1 i))),
))

-- ---- changes of ranges

pub changed_by : (P : ℤ → Type 0) (d e : List (ℤ × ℤ)) (y z : ℤ) → AreRanges d → IsPart P d e → IsInSet d y → (P y → ⊥) → IsInSet d z → P z
    → IsChange Changed P d e
changed_by P d e y z h p i n j q = (
  p.members,
  elim (same_or_less d e h p.ranges (λ x k. ((p.members x).0 k).0)) [
    | inl s ↦ absurd (n ((p.members y).0 (subst (λ (l : List (ℤ × ℤ)). IsInSet l y) (sym s) i)).1)
    | inr l ↦ l
  ],
  filled e z ((p.members z).1 (j, q)),
)

-- ---- the ends of a list

first_is : (rs : List (ℤ × ℤ)) (d : ℤ × ℤ) → 0 < length rs → (get_or rs 0 d).0 ≡ least rs
first_is [] d l = absurd (omega (arith, l))
first_is (r ∷ rs) d l = refl

last_at : (rs : List (ℤ × ℤ)) (k : ℕ) (d : ℤ × ℤ) → suc k ≡ length rs → (get_or rs k d).1 ≡ greatest rs
last_at [] k d l = absurd (omega (arith, l))
last_at (r ∷ []) zero d l = refl
last_at (r ∷ []) (suc k) d l = absurd (omega (arith, l))
last_at (r ∷ s ∷ rs) zero d l = absurd (omega (arith, l))
last_at (r ∷ s ∷ rs) (suc k) d l = last_at (s ∷ rs) k d (omega (arith, l))

pub of_list : (h : Head) (rs : List (ℤ × ℤ)) → AreRanges rs → AreWithinLimits rs → 0 < length rs → h.low ≡ (get_or rs 0 (pos 0, pos 0)).0
    → h.high ≡ (get_or rs (length rs - 1) (pos 0, pos 0)).1 → h.size ≡ set_size rs → LEAST ≤ℤ h.base → (h.base +ℤ pos 63) ≤ℤ GREATEST → h.bits < 2 ^ 64 → IsHeadOf h rs
of_list h rs k w l low high size f g q = record {
  are_ranges = k;
  within = w;
  low_is = low ∙ first_is rs (pos 0, pos 0) l;
  high_is = high ∙ last_at rs (length rs - 1) (pos 0, pos 0) (omega (arith, l));
  size_is = size;
  floor = f;
  ceiling = g;
  fits = q;
}

pub ends_of : (h : Head) (rs : List (ℤ × ℤ)) → IsHeadOf h rs → 0 < length rs → IsInSet rs h.low × IsInSet rs h.high × ((x : ℤ) → IsInSet rs x → (h.low ≤ℤ x) × (x ≤ℤ h.high))
ends_of h rs k l =
    let a = least_member rs l k.are_ranges in
    let b = greatest_member rs l k.are_ranges in (
      subst (λ (x : ℤ). IsInSet rs x) (sym k.low_is) a.0,
      subst (λ (x : ℤ). IsInSet rs x) (sym k.high_is) b.0,
      λ x i. let c = a.1 x i in let d = b.1 x i in let e = k.low_is in let f = k.high_is in (omega (arith, ints), omega (arith, ints)),
    )

pub low_high : (h : Head) (rs : List (ℤ × ℤ)) → IsHeadOf h rs → 0 < length rs → (h.low ≤ℤ h.high) × (LEAST ≤ℤ h.low) × (h.high ≤ℤ GREATEST)
low_high h rs k l =
    let e = ends_of h rs k l in
    ((e.2 h.low e.0).1, (within_limits rs h.low k.within e.0).0, (within_limits rs h.high k.within e.1).1)

pub of_narrow : (h : Head) (rs : List (ℤ × ℤ)) → IsHeadOf h rs → 0 < length rs → h.base ≡ int_min h.low (pos 2147483583) → h.high ≤ℤ (h.low +ℤ pos 63)
    → ((i : ℕ) → i < 64 → (bit_at h.bits i ≡ 1) ↔ IsInSet rs (h.base +ℤ pos i)) → (head_set h ≡ rs) × (0 < h.bits)
of_narrow h rs k l b n g =
    let e = ends_of h rs k l in
    let t = low_high h rs k l in
    let t0 = t.0 in let t1 = t.1 in let t2 = t.2 in
    let inside : (x : ℤ) → IsInSet rs x → (h.base ≤ℤ x) × (x ≤ℤ (h.base +ℤ pos 63)) = (λ x i.
    let p = e.2 x i in let p0 = p.0 in let p1 = p.1 in (omega (arith, ints, clamps), omega (arith, ints, clamps))) in
    let a = (inside h.low e.0) in
    let a0 = a.0 in let a1 = a.1 in
    let o = offset_in h.base h.low a0 in
    let s : o.0 < 64 = (let q = o.1 in omega (arith, ints)) in
    let bit = (g o.0 s).1 (subst (λ (x : ℤ). IsInSet rs x) o.1 e.0) in
    let some : 0 < h.bits = positive h.bits (λ z. let c = subst (λ (n : ℕ). bit_at n o.0 ≡ 1) z bit in let d = bit_at-zero o.0 in omega arith) in
    (word_same h rs k.are_ranges some inside g, some)

pub list_ends : (rs : List (ℤ × ℤ)) → AreRanges rs → AreWithinLimits rs → 0 < length rs
    → ((get_or rs 0 (pos 0, pos 0)).0 ≤ℤ (get_or rs (length rs - 1) (pos 0, pos 0)).1) × (LEAST ≤ℤ (get_or rs 0 (pos 0, pos 0)).0) × ((get_or rs (length rs - 1) (pos 0, pos 0)).1 ≤ℤ GREATEST)
list_ends rs k w l =
    let a = least_member rs l k in
    let b = greatest_member rs l k in
    let e = first_is rs (pos 0, pos 0) l in
    let f = last_at rs (length rs - 1) (pos 0, pos 0) (omega (arith, l)) in
    let c = a.1 (greatest rs) b.0 in
    let d = (within_limits rs (least rs) w a.0).0 in
    let g = (within_limits rs (greatest rs) w b.0).1 in
    (omega (arith, ints), omega (arith, ints), omega (arith, ints))

-- ---- several ranges

pub rest_of : (h : Head) (rest : List (ℤ × ℤ)) → IsKept h rest → 0 < length rest → IsHeadOf h rest
rest_of h rest k l = subst (λ (l : List (ℤ × ℤ)). IsHeadOf h l) (wide_ranges h rest l) k.head

pub clipped : (h : Head) (rest es : List (ℤ × ℤ)) (l u a b z : ℤ) → IsHeadOf h rest → 0 < length rest → a ≡ int_max l h.low → b ≡ int_min u h.high
    → IsPart (λ x. IsFromTo a b x) rest es → IsInSet rest z → IsFromTo l u z → (h.low <ℤ l) ⊎ (u <ℤ h.high) → IsChange Changed (λ x. IsFromTo l u x) rest es
clipped h rest es l u a b z k p e f w i m s =
    let t = ends_of h rest k p in
    let q : IsPart (λ x. IsFromTo l u x) rest es = record {
      ranges = w.ranges;
      within = w.within;
      members = λ x. (
        λ j. (let g = (w.members x).0 j in let g0 = g.1.0 in let g1 = g.1.1 in (g.0, (omega (arith, ints, clamps), omega (arith, ints, clamps)))),
        λ g. (let g0 = g.1.0 in let g1 = g.1.1 in let o = t.2 x g.0 in let o0 = o.0 in let o1 = o.1 in
            (w.members x).1 (g.0, (omega (arith, ints, clamps), omega (arith, ints, clamps)))),
      );
    } in
    elim s [
      | inl lt ↦ changed_by (λ x. IsFromTo l u x) rest es h.low z k.are_ranges q t.0 (λ n. let n0 = n.0 in omega (arith, ints)) i m
      | inr lt ↦ changed_by (λ x. IsFromTo l u x) rest es h.high z k.are_ranges q t.1 (λ n. let n1 = n.1 in omega (arith, ints)) i m
    ]

pub cut_out : (h : Head) (rest es : List (ℤ × ℤ)) (l u z : ℤ) → IsHeadOf h rest → 0 < length rest
    → IsPart (λ x. IsFromTo l u x → ⊥) rest es → IsInSet rest z → IsFromTo l u z → h.low <ℤ l → IsChange Changed (λ x. IsFromTo l u x → ⊥) rest es
cut_out h rest es l u z k p w i m lt =
    let t = ends_of h rest k p in
    changed_by (λ x. IsFromTo l u x → ⊥) rest es z h.low k.are_ranges w i (λ n. n m) t.0 (λ n. let n0 = n.0 in omega (arith, ints))

pub split_part : (a b l u : ℤ) → a <ℤ l → u <ℤ b → l ≤ℤ u → LEAST ≤ℤ a → b ≤ℤ GREATEST
    → IsPart (λ x. IsFromTo l u x → ⊥) ((a, b) ∷ []) ((a, l -ℤ pos 1) ∷ (u +ℤ pos 1, b) ∷ [])
split_part a b l u p q r s t = record {
  ranges = (omega (arith, ints), omega (arith, ints), omega (arith, ints));
  within = ((omega (arith, ints), omega (arith, ints)), (omega (arith, ints), omega (arith, ints)), ((omega (arith, ints), omega (arith, ints)), (omega (arith, ints), omega (arith, ints)), tt));
  members = λ x. (
    λ i. elim i [
      | inl j ↦ (let c = j.0 in let d = j.1 in (inl (omega (arith, ints), omega (arith, ints)), λ m. let n = m.0 in omega (arith, ints)))
      | inr k ↦ elim k [ inl j ↦ (let c = j.0 in let d = j.1 in (inl (omega (arith, ints), omega (arith, ints)), λ m. let n = m.1 in omega (arith, ints))) | inr j ↦ absurd j ]
    ],
    λ m. elim m.0 [
      | inl j ↦ (let c = j.0 in let d = j.1 in elim (outside l u x m.1) [ inl o ↦ inl (c, omega (arith, ints)) | inr o ↦ inr (inl (omega (arith, ints), d)) ])
      | inr j ↦ absurd j
    ],
  );
}

pub limits_of : (d : List (ℤ × ℤ)) (x : ℤ) → IsDomain d → IsInSet d x → (LEAST ≤ℤ x) × (x ≤ℤ GREATEST)
limits_of d x h i = within_limits d x h.1 i

-- what is kept, of the ranges that are seen
pub seen : (h : Head) (rest d : List (ℤ × ℤ)) → IsKept h rest → kept_ranges h rest ≡ d → IsHeadOf h d
seen h rest d k e = subst (λ (l : List (ℤ × ℤ)). IsHeadOf h l) e k.head

same_one : (r : ℤ × ℤ) (a b : ℤ) → a ≡ r.0 → b ≡ r.1 → r ∷ [] ≡ (a, b) ∷ []
same_one (x, y) a b p q = cc

pub filled_of : (d : List (ℤ × ℤ)) → least d <ℤ greatest d → 0 < length d
filled_of [] lt = absurd (omega (arith, ints, lt))
filled_of (r ∷ rs) lt = omega arith

single : (d : List (ℤ × ℤ)) → AreRanges d → set_size d ≡ 1 → (x : ℤ) × (d ≡ (x, x) ∷ [])
single [] k e = absurd (omega (arith, e))
single (r ∷ []) k e = let le : r.0 ≤ℤ r.1 = k in (r.0, same_one r r.0 r.0 refl (omega (arith, ints, e)))
single (r ∷ s ∷ rs) k e = absurd (omega (arith, e))

pub fixed_is : (h : Head) (d : List (ℤ × ℤ)) → IsHeadOf h d → (h.size ≡ 1 → (x : ℤ) × (d ≡ (x, x) ∷ [])) × ((x : ℤ) × (d ≡ (x, x) ∷ []) → h.size ≡ 1)
fixed_is h d k = (λ e. single d k.are_ranges (sym k.size_is ∙ e), λ p. k.size_is ∙ ap set_size p.1 ∙ size_of_one p.0)

pub narrow_small : (h : Head) (rest d : List (ℤ × ℤ)) → IsKept h rest → kept_ranges h rest ≡ d → greatest d ≤ℤ (least d +ℤ pos 63) → length rest ≡ 0
narrow_small h rest d k e n = elim k.wide [
  | inl z ↦ ap length z
  | inr w ↦ absurd (let f = seen h rest d k e in let a = f.low_is in let b = f.high_is in let c = w.1 in omega (arith, ints))
]

pub next_as : (d e : List (ℤ × ℤ)) (v v' y y' : ℤ) → IsNextFrom e v' y' → e ≡ d → v' ≡ v → y' ≡ y → IsNextFrom d v y
next_as d e v v' y y' n p q r =
    subst (λ (l : List (ℤ × ℤ)). IsNextFrom l v y) p (subst (λ (a : ℤ). IsNextFrom e a y) q (subst (λ (a : ℤ). IsNextFrom e v' a) r n))

pub above_next : (o : Option ℤ) (d : List (ℤ × ℤ)) (v w : ℤ) → MatchOption o (IsNoneFrom d w) (λ y. IsNextFrom d w y) → w ≡ (v +ℤ pos 1)
    → MatchOption o (IsNoneAbove d v) (λ y. IsNextAbove d v y)
above_next None d v w n e = λ z i. let a = n z i in omega (arith, ints)
above_next (Some y) d v w n e = (n.0, (let a = n.1 in omega (arith, ints)), λ z i lt. n.2 z i (omega (arith, ints)))

pub bounds_of : (h : Head) (d : List (ℤ × ℤ)) → IsHeadOf h d → (x : ℤ) → IsInSet d x → (h.low ≤ℤ x) × (x ≤ℤ h.high)
bounds_of h d k x i = (ends_of h d k (filled d x i)).2 x i

pub none_seen : (h : Head) (d : List (ℤ × ℤ)) → IsHeadOf h d → h.size ≡ 0 → (x : ℤ) → IsInSet d x → ⊥
none_seen h d k e = (none_of_size d k.are_ranges).0 (sym k.size_is ∙ e)

pub some_seen : (h : Head) (d : List (ℤ × ℤ)) → IsHeadOf h d → 0 < h.size → 0 < length d
some_seen h d k l = nonempty_of_size d (let e = k.size_is in omega arith)

pub same_by : (xs ys : List (ℤ × ℤ)) → length xs ≡ length ys → ((k : ℕ) → k < length xs → get_or xs k (pos 0, pos 0) ≡ get_or ys k (pos 0, pos 0)) → xs ≡ ys
same_by [] [] e f = refl
same_by [] (y ∷ ys) e f = absurd (omega (arith, e))
same_by (x ∷ xs) [] e f = absurd (omega (arith, e))
same_by (x ∷ xs) (y ∷ ys) e f =
    let a = f 0 (omega arith) in
    let b = same_by xs ys (omega (arith, e)) (λ k l. f (suc k) (omega (arith, l))) in cc

-- what is kept at one end is what isn't removed at the other
pub kept_below : (h : Head) (d : List (ℤ × ℤ)) (l u a b x : ℤ) → IsHeadOf h d → IsInSet d x → a ≡ h.low → b ≡ (l -ℤ pos 1) → h.high ≤ℤ u → IsFromTo a b x ↔ (IsFromTo l u x → ⊥)
kept_below h d l u a b x k i p q le =
    let o = bounds_of h d k x i in let o0 = o.0 in let o1 = o.1 in (
      λ m n. (let m1 = m.1 in let n0 = n.0 in omega (arith, ints)),
      λ n. (omega (arith, ints), elim (outside l u x n) [ inl t ↦ omega (arith, ints) | inr t ↦ absurd (omega (arith, ints)) ]),
    )

pub kept_above : (h : Head) (d : List (ℤ × ℤ)) (l u a b x : ℤ) → IsHeadOf h d → IsInSet d x → a ≡ (u +ℤ pos 1) → b ≡ h.high → l ≤ℤ h.low → IsFromTo a b x ↔ (IsFromTo l u x → ⊥)
kept_above h d l u a b x k i p q le =
    let o = bounds_of h d k x i in let o0 = o.0 in let o1 = o.1 in (
      λ m n. (let m0 = m.0 in let n1 = n.1 in omega (arith, ints)),
      λ n. (elim (outside l u x n) [ inl t ↦ absurd (omega (arith, ints)) | inr t ↦ omega (arith, ints) ], omega (arith, ints)),
    )

pub fits_below : (a b : ℤ) → a <ℤ b → SFits w32 b → SFits w32 a → SFits w32 (b -ℤ pos 1)
fits_below a b l p q = omega (arith, ints)

pub fits_above : (a b : ℤ) → b <ℤ a → SFits w32 b → SFits w32 a → SFits w32 (b +ℤ pos 1)
fits_above a b l p q = omega (arith, ints)
