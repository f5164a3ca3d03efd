-- The steps of the union of a list of ranges.
use Rattle.std.proofs.Common.{◌≡◌, ℕ, ℤ, pos, ◌+ℤ◌, ◌≤ℤ◌, ◌<ℤ◌, ◌<◌, ◌+◌, inl, inr, suc, length, get_or, List, [], ◌∷◌, ◌++◌, refl, sym, subst, append_assoc, Bool, true, false, cond, arith}
use Rattle.std.specs.Prelude.{int_le, IsPermutation, All, filter}
use Rattle.std.specs.Int.{int_max}
use Rattle.std.specs.List.Sorted.{IsSortedBy}
use Rattle.std.specs.Ordering.{is_lt, int_cmp, ordering_then}
use Rattle.std.proofs.lemmas.Int.{ints, clamps, by_lt_z}
use Rattle.std.proofs.lemmas.List.{get_or_default}
use Rattle.std.proofs.lemmas.List.Elements.{All-nil, All-cons, All-head, All-tail}
use Rattle.std.proofs.lemmas.List.Sorted.{Contains-permutation, IsPermutation-sym}
use Rattle.fz_sets.specs.Sets.{AreRanges, AreWithinLimits, AreOneSet, IsInSet, IsInRange, IsWithinLimits, interval}
use Rattle.fz_dom.specs.Union.{IsProper, AreInOrder, IsMerging}
use Rattle.fz_dom.proofs.Ranges.{at_place, from_place, same_ranges}

pub AreOneSet-trans : (xs ys zs : List (ℤ × ℤ)) → AreOneSet xs ys → AreOneSet ys zs → AreOneSet xs zs
AreOneSet-trans xs ys zs f g = λ x. (λ i. (g x).0 ((f x).0 i), λ i. (f x).1 ((g x).1 i))

AreOneSet-behind : (xs ys zs : List (ℤ × ℤ)) → AreOneSet ys zs → AreOneSet (xs ++ ys) (xs ++ zs)
AreOneSet-behind [] ys zs f = f
AreOneSet-behind (r ∷ xs) ys zs f = let g = AreOneSet-behind xs ys zs f in
    λ x. (λ i. elim i [ inl j ↦ inl j | inr j ↦ inr ((g x).0 j) ], λ i. elim i [ inl j ↦ inl j | inr j ↦ inr ((g x).1 j) ])

-- ---- the ranges that aren't empty

cond_set : (b : Bool) (r : ℤ × ℤ) (xs ys : List (ℤ × ℤ)) → (b ≡ false → r.1 <ℤ r.0) → AreOneSet xs ys → AreOneSet (cond b (r ∷ xs) xs) (r ∷ ys)
cond_set true r xs ys e f = AreOneSet-behind (r ∷ []) xs ys f
cond_set false r xs ys e f = let lt = e refl in
    λ x. (λ i. inr ((f x).0 i), λ i. elim i [ inl j ↦ (let a = j.0 in let b = j.1 in absurd (omega (arith, ints))) | inr j ↦ (f x).1 j ])

pub filter_one_set : (rs : List (ℤ × ℤ)) → AreOneSet (filter (λ (r : ℤ × ℤ). int_le r.0 r.1) rs) rs
filter_one_set [] = λ x. (λ i. i, λ i. i)
filter_one_set (r ∷ rs) = cond_set (int_le r.0 r.1) r (filter (λ (s : ℤ × ℤ). int_le s.0 s.1) rs) rs (λ e. grind (arith, ints)) (filter_one_set rs)

cond_proper : (b : Bool) (r : ℤ × ℤ) (xs : List (ℤ × ℤ)) → (b ≡ true → IsProper r) → All IsProper xs → All IsProper (cond b (r ∷ xs) xs)
cond_proper true r xs f h = All-cons IsProper r xs (f refl) h
cond_proper false r xs f h = h

pub filter_proper : (rs : List (ℤ × ℤ)) → AreWithinLimits rs → All IsProper (filter (λ (r : ℤ × ℤ). int_le r.0 r.1) rs)
filter_proper [] w = All-nil IsProper
filter_proper (r ∷ rs) w =
    cond_proper (int_le r.0 r.1) r (filter (λ (s : ℤ × ℤ). int_le s.0 s.1) rs) (λ e. (grind (arith, ints), w.0, w.1)) (filter_proper rs w.2)

-- ---- the sort

permuted : (xs ys : List (ℤ × ℤ)) (x : ℤ) → IsPermutation xs ys → IsInSet xs x → IsInSet ys x
permuted xs ys x h i =
    let d : ℤ × ℤ = (pos 0, pos 0) in
    let p = at_place xs x i in
    let r = get_or xs p.0 d in
    let q = Contains-permutation xs ys r h (p.0, p.1, get_or_default xs p.0 r d p.1) in
    from_place ys x q.0 r q.1 (subst (λ (s : ℤ × ℤ). IsInRange s x) (sym q.2) (p.2 d))

pub permutation_one_set : (xs ys : List (ℤ × ℤ)) → IsPermutation xs ys → AreOneSet ys xs
permutation_one_set xs ys h = λ x. (permuted ys xs x (IsPermutation-sym xs ys h), permuted xs ys x h)

in_order_by_place : (rs : List (ℤ × ℤ)) → ((k : ℕ) → suc k < length rs → (get_or rs k (pos 0, pos 0)).0 ≤ℤ (get_or rs (suc k) (pos 0, pos 0)).0) → AreInOrder rs
in_order_by_place [] h = tt
in_order_by_place (r ∷ []) h = tt
in_order_by_place (r ∷ s ∷ rs) h = (h 0 (omega arith), in_order_by_place (s ∷ rs) (λ k l. h (suc k) (omega (arith, l))))

pub in_order_from_sort : (lt : ℤ × ℤ → ℤ × ℤ → Bool) (rs : List (ℤ × ℤ)) → ((a b : ℤ × ℤ) → lt b a ≡ false → a.0 ≤ℤ b.0) → IsSortedBy lt rs → AreInOrder rs
in_order_from_sort lt rs f h = in_order_by_place rs (λ k l.
    let e : k + 1 ≡ suc k = omega arith in
    let t = h k (pos 0, pos 0) (omega arith) (omega arith) in
    f (get_or rs k (pos 0, pos 0)) (get_or rs (suc k) (pos 0, pos 0)) (subst (λ (n : ℕ). lt (get_or rs n (pos 0, pos 0)) (get_or rs k (pos 0, pos 0)) ≡ false) e t))

-- what a sort of pairs says of their first parts
pub first_not_above : (a b : ℤ × ℤ) → is_lt (ordering_then (int_cmp b.0 a.0) (int_cmp b.1 a.1)) ≡ false → a.0 ≤ℤ b.0
first_not_above a b e = by_lt_z b.0 a.0 (λ lt. absurd (grind (arith, ints))) (λ le. le)

-- ---- the merge

grown : (xs : List (ℤ × ℤ)) (last : ℤ × ℤ) (high : ℤ) → last.1 ≤ℤ high → AreRanges (xs ++ last ∷ []) → AreRanges (xs ++ (last.0, high) ∷ [])
grown [] last high le h = let a : last.0 ≤ℤ last.1 = h in omega (arith, ints)
grown (r ∷ []) last high le h = (h.0, h.1, grown [] last high le h.2)
grown (r ∷ s ∷ xs) last high le h = (h.0, h.1, grown (s ∷ xs) last high le h.2)

more : (xs : List (ℤ × ℤ)) (last r : ℤ × ℤ) → (last.1 +ℤ pos 1) <ℤ r.0 → r.0 ≤ℤ r.1 → AreRanges (xs ++ last ∷ []) → AreRanges ((xs ++ last ∷ []) ++ r ∷ [])
more [] last r lt ok h = (h, lt, ok)
more (s ∷ []) last r lt ok h = (h.0, h.1, more [] last r lt ok h.2)
more (s ∷ t ∷ xs) last r lt ok h = (h.0, h.1, more (t ∷ xs) last r lt ok h.2)

within_front : (xs ys : List (ℤ × ℤ)) → AreWithinLimits (xs ++ ys) → AreWithinLimits xs
within_front [] ys w = tt
within_front (r ∷ xs) ys w = (w.0, w.1, within_front xs ys w.2)

within_append : (xs ys : List (ℤ × ℤ)) → AreWithinLimits xs → AreWithinLimits ys → AreWithinLimits (xs ++ ys)
within_append [] ys w v = v
within_append (r ∷ xs) ys w v = (w.0, w.1, within_append xs ys w.2 v)

skipped : (last r : ℤ × ℤ) (high : ℤ) (left : List (ℤ × ℤ)) → AreInOrder (last ∷ r ∷ left) → AreInOrder ((last.0, high) ∷ left)
skipped last r high [] h = tt
skipped last r high (s ∷ left) h = let a = h.0 in let b = h.1.0 in (omega (arith, ints), h.1.1)

-- two ranges that overlap or touch are one
joined : (last r : ℤ × ℤ) (left : List (ℤ × ℤ)) → last.0 ≤ℤ last.1 → r.0 ≤ℤ r.1 → last.0 ≤ℤ r.0 → r.0 ≤ℤ (last.1 +ℤ pos 1)
    → AreOneSet ((last.0, int_max last.1 r.1) ∷ left) (last ∷ r ∷ left)
joined last r left p q le touch = λ x. (
  λ i. elim i [
    | inl j ↦ (let a = j.0 in let b = j.1 in by_lt_z last.1 x
        (λ lt. inr (inl (omega (arith, ints), omega (arith, ints, clamps)))) (λ k. inl (a, k)))
    | inr j ↦ inr (inr j)
  ],
  λ i. elim i [
    | inl j ↦ (let a = j.0 in let b = j.1 in inl (a, omega (arith, ints, clamps)))
    | inr k ↦ elim k [ inl j ↦ (let a = j.0 in let b = j.1 in inl (omega (arith, ints), omega (arith, ints, clamps))) | inr j ↦ inr j ]
  ],
)

pub IsMerging-start : (r : ℤ × ℤ) (left whole : List (ℤ × ℤ)) → whole ≡ r ∷ left → All IsProper whole → AreInOrder whole → IsMerging [] r left whole
IsMerging-start r left whole e h o =
    let h' = rw e at h in
    let o' = rw e at o in
    let p = All-head IsProper r left h' in
    record {
      ranges = p.0;
      within = (p.1, p.2, tt);
      last_proper = p;
      left_proper = All-tail IsProper r left h';
      order = o';
      one_set = rw e (λ x. (λ i. i, λ i. i));
    }

pub IsMerging-join : (done : List (ℤ × ℤ)) (last r : ℤ × ℤ) (left whole : List (ℤ × ℤ)) → IsMerging done last (r ∷ left) whole
    → r.0 ≤ℤ (last.1 +ℤ pos 1) → IsMerging done (last.0, int_max last.1 r.1) left whole
IsMerging-join done last r left whole m touch =
    let p = m.last_proper in
    let q = All-head IsProper r left m.left_proper in
    let a = p.0 in let b = p.2.0 in let b' = p.2.1 in let c = q.2.1 in
    let le = m.order.0 in
    let w : IsWithinLimits (int_max last.1 r.1) = (omega (arith, ints, clamps), omega (arith, ints, clamps)) in
    record {
      ranges = grown done last (int_max last.1 r.1) (omega (arith, ints, clamps)) m.ranges;
      within = within_append done ((last.0, int_max last.1 r.1) ∷ []) (within_front done (last ∷ []) m.within) (p.1, w, tt);
      last_proper = (omega (arith, ints, clamps), p.1, w);
      left_proper = All-tail IsProper r left m.left_proper;
      order = skipped last r (int_max last.1 r.1) left m.order;
      one_set = AreOneSet-trans (done ++ (last.0, int_max last.1 r.1) ∷ left) (done ++ last ∷ r ∷ left) whole
          (AreOneSet-behind done ((last.0, int_max last.1 r.1) ∷ left) (last ∷ r ∷ left) (joined last r left p.0 q.0 le touch)) m.one_set;
    }

pub IsMerging-push : (done : List (ℤ × ℤ)) (last r : ℤ × ℤ) (left whole : List (ℤ × ℤ)) → IsMerging done last (r ∷ left) whole
    → (last.1 +ℤ pos 1) <ℤ r.0 → IsMerging (done ++ last ∷ []) r left whole
IsMerging-push done last r left whole m apart =
    let q = All-head IsProper r left m.left_proper in
    record {
      ranges = more done last r apart q.0 m.ranges;
      within = within_append (done ++ last ∷ []) (r ∷ []) m.within (q.1, q.2, tt);
      last_proper = q;
      left_proper = All-tail IsProper r left m.left_proper;
      order = m.order.1;
      one_set = rw append_assoc m.one_set;
    }

-- ---- what the whole call promises

pub interval_one_set : (rs : List (ℤ × ℤ)) (l u : ℤ) → rs ≡ (l, u) ∷ [] → AreOneSet (interval l u) rs
interval_one_set rs l u e = rw e (filter_one_set ((l, u) ∷ []))

cond_ranges : (b : Bool) (l u : ℤ) → (b ≡ true → l ≤ℤ u) → AreRanges (cond b ((l, u) ∷ []) [])
cond_ranges true l u f = f refl
cond_ranges false l u f = tt

pub interval_ranges : (l u : ℤ) → AreRanges (interval l u)
interval_ranges l u = cond_ranges (int_le l u) l u (λ e. grind (arith, ints))

pub one_range : (rs : List (ℤ × ℤ)) (d : ℤ × ℤ) → length rs ≡ 1 → rs ≡ get_or rs 0 d ∷ []
one_range [] d l = absurd (omega (arith, l))
one_range (r ∷ []) d l = refl
one_range (r ∷ s ∷ rs) d l = absurd (omega (arith, l))

pub unique : (d s rs : List (ℤ × ℤ)) → AreRanges d → AreOneSet d rs → AreRanges s → AreOneSet s rs → d ≡ s
unique d s rs h f k g = same_ranges d s h k (AreOneSet-trans d rs s f (λ x. ((g x).1, (g x).0)))
