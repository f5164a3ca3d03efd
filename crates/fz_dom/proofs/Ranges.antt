-- Laws of rising ranges: where their members lie, how many there are, and that a set has one such list.
use Rattle.std.proofs.Common.{◌≡◌, ℕ, zero, suc, length, get_or, ℤ, pos, ◌+ℤ◌, ◌≤ℤ◌, ◌<ℤ◌, ◌≤◌, ◌<◌, inl, inr, List, [], ◌∷◌, refl, ap, sym, subst, arith}
use Rattle.std.proofs.lemmas.Int.{ints, by_lt_z, clamps}
use Rattle.fz_sets.specs.Sets.{AreRanges, AreWithinLimits, IsInRange, IsInSet, AreOneSet, IsWithinLimits, set_size}
use Rattle.std.specs.Prelude.{int_lt, true, false}
use Rattle.std.specs.Int.{int_max}
use Rattle.std.specs.List.{AllWithin}
use Rattle.std.specs.List.Sorted.{IsPartitionedBy}
use Rattle.std.proofs.lemmas.Bool.Decides.{leb_tells}
use Rattle.fz_dom.specs.Shape.{least, greatest, IsNoneFrom, IsNextFrom}

pub AreRanges-head : (r : ℤ × ℤ) (rs : List (ℤ × ℤ)) → AreRanges (r ∷ rs) → r.0 ≤ℤ r.1
AreRanges-head r [] h = h
AreRanges-head r (s ∷ rs) h = h.0

pub AreRanges-tail : (r : ℤ × ℤ) (rs : List (ℤ × ℤ)) → AreRanges (r ∷ rs) → AreRanges rs
AreRanges-tail r [] h = tt
AreRanges-tail r (s ∷ rs) h = h.2

-- no member lies below the first range
pub lower_bound : (r : ℤ × ℤ) (rs : List (ℤ × ℤ)) (x : ℤ) → AreRanges (r ∷ rs) → IsInSet (r ∷ rs) x → r.0 ≤ℤ x
lower_bound r [] x h (inl i) = i.0
lower_bound r [] x h (inr i) = absurd i
lower_bound r (s ∷ rs) x h (inl i) = i.0
lower_bound r (s ∷ rs) x h (inr i) =
    let a = lower_bound s rs x h.2 i in let b = h.0 in let c = h.1 in omega (arith, ints)

-- the members of the later ranges lie above the number that follows the first
pub above_gap : (r : ℤ × ℤ) (rs : List (ℤ × ℤ)) (x : ℤ) → AreRanges (r ∷ rs) → IsInSet rs x → (r.1 +ℤ pos 1) <ℤ x
above_gap r [] x h i = absurd i
above_gap r (s ∷ rs) x h i = let a = lower_bound s rs x h.2 i in let b = h.1 in omega (arith, ints)

pub upper_bound : (rs : List (ℤ × ℤ)) (x : ℤ) → AreRanges rs → IsInSet rs x → x ≤ℤ greatest rs
upper_bound [] x h i = absurd i
upper_bound (r ∷ []) x h (inl i) = i.1
upper_bound (r ∷ []) x h (inr i) = absurd i
upper_bound (r ∷ s ∷ rs) x h (inl i) =
    let a = upper_bound (s ∷ rs) s.0 h.2 (inl (omega (arith, ints), AreRanges-head s rs h.2)) in
    let b = h.1 in let c = i.1 in omega (arith, ints)
upper_bound (r ∷ s ∷ rs) x h (inr i) = upper_bound (s ∷ rs) x h.2 i

pub least_is_in : (r : ℤ × ℤ) (rs : List (ℤ × ℤ)) → AreRanges (r ∷ rs) → IsInSet (r ∷ rs) r.0
least_is_in r rs h = inl (omega (arith, ints), AreRanges-head r rs h)

pub greatest_is_in : (r : ℤ × ℤ) (rs : List (ℤ × ℤ)) → AreRanges (r ∷ rs) → IsInSet (r ∷ rs) (greatest (r ∷ rs))
greatest_is_in r [] h = inl (h, omega (arith, ints))
greatest_is_in r (s ∷ rs) h = inr (greatest_is_in s rs h.2)

pub within_limits : (rs : List (ℤ × ℤ)) (x : ℤ) → AreWithinLimits rs → IsInSet rs x → IsWithinLimits x
within_limits [] x w i = absurd i
within_limits (r ∷ rs) x w (inl i) =
    let a = w.0.0 in let b = w.1.1 in let c = i.0 in let d = i.1 in (omega (arith, ints), omega (arith, ints))
within_limits (r ∷ rs) x w (inr i) = within_limits rs x w.2 i

-- the size is at most the distance of the ends, and one more
pub size_bound : (r : ℤ × ℤ) (rs : List (ℤ × ℤ)) → AreRanges (r ∷ rs) → (r.0 +ℤ pos (set_size (r ∷ rs))) ≤ℤ (greatest (r ∷ rs) +ℤ pos 1)
size_bound r [] h = let a : r.0 ≤ℤ r.1 = h in omega (arith, ints)
size_bound r (s ∷ rs) h = let a = h.0 in let b = h.1 in let c = size_bound s rs h.2 in omega (arith, ints)

pub size_below : (rs : List (ℤ × ℤ)) → AreRanges rs → AreWithinLimits rs → set_size rs ≤ 4294967293
size_below [] h w = omega arith
size_below (r ∷ rs) h w =
    let a = size_bound r rs h in
    let b = within_limits (r ∷ rs) (greatest (r ∷ rs)) w (greatest_is_in r rs h) in
    let c = w.0.0 in let d = b.1 in
    omega (arith, ints)

-- of two lists of one set whose first ranges begin alike, the second's first range ends no later
same_high : (r s : ℤ × ℤ) (rs ss : List (ℤ × ℤ)) → AreRanges (r ∷ rs) → AreRanges (s ∷ ss) → s.0 ≤ℤ r.0 → AreOneSet (r ∷ rs) (s ∷ ss) → s.1 ≤ℤ r.1
same_high r s rs ss h k q one =
    let a = AreRanges-head r rs h in
    by_lt_z r.1 s.1
    (λ lt. let i : IsInSet (s ∷ ss) (r.1 +ℤ pos 1) = inl (omega (arith, ints), omega (arith, ints)) in
    elim ((one (r.1 +ℤ pos 1)).1 i) [
      | inl j ↦ let c = j.1 in omega (arith, ints)
      | inr j ↦ let c = above_gap r rs (r.1 +ℤ pos 1) h j in omega (arith, ints)
    ])
    (λ le. le)

-- a member of the later ranges is one of the other list's later ranges
later_is_in : (r s : ℤ × ℤ) (rs ss : List (ℤ × ℤ)) (x : ℤ) → AreRanges (r ∷ rs) → s.1 ≤ℤ r.1 → (IsInSet (r ∷ rs) x → IsInSet (s ∷ ss) x) → IsInSet rs x → IsInSet ss x
later_is_in r s rs ss x h le f i =
    let a = above_gap r rs x h i in
    elim (f (inr i)) [ inl j ↦ absurd (let c = j.1 in omega (arith, ints)) | inr j ↦ j ]

AreOneSet-sym : (rs ss : List (ℤ × ℤ)) → AreOneSet rs ss → AreOneSet ss rs
AreOneSet-sym rs ss one = λ x. ((one x).1, (one x).0)

same_pair : (r s : ℤ × ℤ) → r.0 ≡ s.0 → r.1 ≡ s.1 → r ≡ s
same_pair (a, b) (c, d) p q = cc

-- rising ranges are the one such list of their set
pub same_ranges : (rs ss : List (ℤ × ℤ)) → AreRanges rs → AreRanges ss → AreOneSet rs ss → rs ≡ ss
same_ranges [] [] h k one = refl
same_ranges [] (s ∷ ss) h k one = absurd ((one s.0).1 (least_is_in s ss k))
same_ranges (r ∷ rs) [] h k one = absurd ((one r.0).0 (least_is_in r rs h))
same_ranges (r ∷ rs) (s ∷ ss) h k one =
    let back = AreOneSet-sym (r ∷ rs) (s ∷ ss) one in
    let p = lower_bound s ss r.0 k ((one r.0).0 (least_is_in r rs h)) in
    let q = lower_bound r rs s.0 h ((one s.0).1 (least_is_in s ss k)) in
    let u = same_high r s rs ss h k p one in
    let v = same_high s r ss rs k h q back in
    let e = same_pair r s (omega (arith, ints)) (omega (arith, ints)) in
    let t = same_ranges rs ss (AreRanges-tail r rs h) (AreRanges-tail s ss k)
    (λ x. (later_is_in r s rs ss x h u (one x).0, later_is_in s r ss rs x k v (one x).1)) in
    cc

-- ---- by places

pub at_place : (rs : List (ℤ × ℤ)) (x : ℤ) → IsInSet rs x → (k : ℕ) × (k < length rs) × ((d : ℤ × ℤ) → IsInRange (get_or rs k d) x)
at_place [] x i = absurd i
at_place (r ∷ rs) x (inl i) = (0, omega arith, λ d. i)
at_place (r ∷ rs) x (inr i) = let p = at_place rs x i in (suc p.0, omega (arith, p.1), p.2)

pub from_place : (rs : List (ℤ × ℤ)) (x : ℤ) (k : ℕ) (d : ℤ × ℤ) → k < length rs → IsInRange (get_or rs k d) x → IsInSet rs x
from_place [] x k d l i = absurd (omega (arith, l))
from_place (r ∷ rs) x zero d l i = inl i
from_place (r ∷ rs) x (suc k) d l i = inr (from_place rs x k d (omega (arith, l)) i)

pub proper : (rs : List (ℤ × ℤ)) (k : ℕ) (d : ℤ × ℤ) → AreRanges rs → k < length rs → (get_or rs k d).0 ≤ℤ (get_or rs k d).1
proper [] k d h l = absurd (omega (arith, l))
proper (r ∷ rs) zero d h l = AreRanges-head r rs h
proper (r ∷ rs) (suc k) d h l = proper rs k d (AreRanges-tail r rs h) (omega (arith, l))

-- the lows and the highs rise
pub lows_rise : (rs : List (ℤ × ℤ)) (i j : ℕ) (d : ℤ × ℤ) → AreRanges rs → i ≤ j → j < length rs → (get_or rs i d).0 ≤ℤ (get_or rs j d).0
lows_rise [] i j d h le l = absurd (omega (arith, l))
lows_rise (r ∷ rs) zero zero d h le l = omega (arith, ints)
lows_rise (r ∷ rs) zero (suc j) d h le l =
    let lt : j < length rs = omega (arith, l) in
    let i : IsInSet rs (get_or rs j d).0 = from_place rs (get_or rs j d).0 j d lt (omega (arith, ints), proper rs j d (AreRanges-tail r rs h) lt) in
    lower_bound r rs (get_or rs j d).0 h (inr i)
lows_rise (r ∷ rs) (suc i) zero d h le l = absurd (omega (arith, le))
lows_rise (r ∷ rs) (suc i) (suc j) d h le l = lows_rise rs i j d (AreRanges-tail r rs h) (omega (arith, le)) (omega (arith, l))

pub highs_rise : (rs : List (ℤ × ℤ)) (i j : ℕ) (d : ℤ × ℤ) → AreRanges rs → i ≤ j → j < length rs → (get_or rs i d).1 ≤ℤ (get_or rs j d).1
highs_rise [] i j d h le l = absurd (omega (arith, l))
highs_rise (r ∷ rs) zero zero d h le l = omega (arith, ints)
highs_rise (r ∷ rs) zero (suc j) d h le l =
    let lt : j < length rs = omega (arith, l) in
    let i : IsInSet rs (get_or rs j d).1 = from_place rs (get_or rs j d).1 j d lt (proper rs j d (AreRanges-tail r rs h) lt, omega (arith, ints)) in
    let a = above_gap r rs (get_or rs j d).1 h i in
    omega (arith, ints)
highs_rise (r ∷ rs) (suc i) zero d h le l = absurd (omega (arith, le))
highs_rise (r ∷ rs) (suc i) (suc j) d h le l = highs_rise rs i j d (AreRanges-tail r rs h) (omega (arith, le)) (omega (arith, l))

-- ---- ends and emptiness

pub least_member : (rs : List (ℤ × ℤ)) → 0 < length rs → AreRanges rs → IsInSet rs (least rs) × ((x : ℤ) → IsInSet rs x → least rs ≤ℤ x)
least_member [] l h = absurd (omega (arith, l))
least_member (r ∷ rs) l h = (least_is_in r rs h, λ x i. lower_bound r rs x h i)

pub greatest_member : (rs : List (ℤ × ℤ)) → 0 < length rs → AreRanges rs → IsInSet rs (greatest rs) × ((x : ℤ) → IsInSet rs x → x ≤ℤ greatest rs)
greatest_member [] l h = absurd (omega (arith, l))
greatest_member (r ∷ rs) l h = (greatest_is_in r rs h, λ x i. upper_bound (r ∷ rs) x h i)

pub least_below : (rs : List (ℤ × ℤ)) (x : ℤ) → AreRanges rs → IsInSet rs x → least rs ≤ℤ x
least_below [] x h i = absurd i
least_below (r ∷ rs) x h i = lower_bound r rs x h i

pub none_of_size : (rs : List (ℤ × ℤ)) → AreRanges rs → (set_size rs ≡ 0 → (x : ℤ) → IsInSet rs x → ⊥) × (((x : ℤ) → IsInSet rs x → ⊥) → set_size rs ≡ 0)
none_of_size [] h = (λ e x i. i, λ f. refl)
none_of_size (r ∷ rs) h = (λ e x i. omega arith, λ f. absurd (f r.0 (least_is_in r rs h)))

pub AreOneSet-same : (rs ss : List (ℤ × ℤ)) → rs ≡ ss → AreOneSet rs ss
AreOneSet-same rs ss e = λ x. (λ i. subst (λ (l : List (ℤ × ℤ)). IsInSet l x) e i, λ i. subst (λ (l : List (ℤ × ℤ)). IsInSet l x) (sym e) i)

pub nonempty_of_size : (rs : List (ℤ × ℤ)) → 0 < set_size rs → 0 < length rs
nonempty_of_size [] l = l
nonempty_of_size (r ∷ rs) l = omega arith

-- ---- the place of the first range that reaches a value

pub highs_partition : (rs : List (ℤ × ℤ)) (v : ℤ) → AreRanges rs → IsPartitionedBy (λ (y : ℤ × ℤ). int_lt y.1 v) rs
highs_partition rs v h = λ i j d le l t. let a = highs_rise rs i j d h le l in grind (arith, ints)

pub next_none : (rs : List (ℤ × ℤ)) (v : ℤ) (at : ℕ) → AreRanges rs → length rs ≤ at → AllWithin (λ (y : ℤ × ℤ). int_lt y.1 v ≡ true) rs 0 at → IsNoneFrom rs v
next_none rs v at h le before = λ z i.
    let p = at_place rs z i in
    let l : p.0 < at = omega (arith, p.1) in
    let t = before p.0 (pos 0, pos 0) (omega arith) l in
    let u = (p.2 (pos 0, pos 0)).1 in
    grind (arith, ints)

max_below : (a b z : ℤ) → a ≤ℤ z → b ≤ℤ z → int_max a b ≤ℤ z
max_below a b z p q = omega (arith, ints, clamps)

pub next_some : (rs : List (ℤ × ℤ)) (v : ℤ) (at : ℕ) (r : ℤ × ℤ) → AreRanges rs → at < length rs
    → AllWithin (λ (y : ℤ × ℤ). int_lt y.1 v ≡ true) rs 0 at → AllWithin (λ (y : ℤ × ℤ). int_lt y.1 v ≡ false) rs at (length rs)
    → ((d : ℤ × ℤ) → r ≡ get_or rs at d) → IsNextFrom rs v (int_max r.0 v)
next_some rs v at r h l before after is =
    let d : ℤ × ℤ = (pos 0, pos 0) in
    let e = is d in
    let e0 : r.0 ≡ (get_or rs at d).0 = ap (λ (p : ℤ × ℤ). p.0) e in
    let e1 : r.1 ≡ (get_or rs at d).1 = ap (λ (p : ℤ × ℤ). p.1) e in
    let ok = proper rs at d h l in
    let t = after at d (omega arith) l in
    let reach : v ≤ℤ (get_or rs at d).1 = grind (arith, ints) in
    let low : (get_or rs at d).0 ≤ℤ int_max r.0 v = omega (arith, ints, clamps) in
    let high : int_max r.0 v ≤ℤ (get_or rs at d).1 = omega (arith, ints, clamps) in (
      from_place rs (int_max r.0 v) at d l (low, high),
      omega (arith, ints, clamps),
      λ z i le.
          let p = at_place rs z i in
          let q = p.2 d in
          elim (leb_tells at p.0) [
            | inl t ↦ let m = lows_rise rs at p.0 d h t.1 p.1 in let n = q.0 in
                max_below r.0 v z (omega (arith, ints)) le
            | inr t ↦ let b = before p.0 d (omega arith) t.1 in let n = q.1 in
                absurd (grind (arith, ints))
          ],
    )
