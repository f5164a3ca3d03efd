-- Lists of rising ranges: parts of them, what a cut leaves, and that fewer numbers are a smaller size.
use Rattle.std.proofs.Common.{◌≡◌, ℕ, zero, suc, ◌+◌, ◌<◌, ◌≤◌, ℤ, pos, ◌+ℤ◌, ◌-ℤ◌, ◌≤ℤ◌, ◌<ℤ◌, ◌⊎◌, inl, inr, Bool, true, false, cond, List, [], ◌∷◌, ◌++◌, length, get_or, set, take, drop, refl, sym, ap, subst, ◌∙◌, arith}
use Rattle.std.specs.Prelude.{int_lt, int_le, ◌↔◌}
use Rattle.std.specs.List.{AllWithin}
use Rattle.std.specs.List.Sorted.{IsPartitionedBy}
use Rattle.std.specs.Int.{int_max, int_min}
use Rattle.std.specs.Int.{bit_at}
use Rattle.std.proofs.lemmas.List.{nil_from_length}
use Rattle.std.proofs.Common.{length-drop}
use Rattle.std.proofs.lemmas.List.{length-take-le, drop_more}
use Rattle.std.proofs.Common.{append_assoc}
use Rattle.std.proofs.lemmas.Int.{ints, clamps, by_lt_z}
use Rattle.std.proofs.lemmas.Bool.{false≢true}
use Rattle.fz_sets.specs.Sets.{AreRanges, AreWithinLimits, IsInRange, IsInSet, set_size}
use Rattle.fz_dom.specs.Wide.{below, above, cut_ranges, IsPart}
use Rattle.fz_dom.proofs.Ranges.{AreRanges-head, AreRanges-tail, lower_bound, above_gap, least_is_in, at_place, from_place, proper, within_limits, lows_rise}
use Rattle.fz_dom.proofs.Heads.{within_all}
use Rattle.fz_sets.proofs.Numbers.{Decides-int_lt}

pub prepend : (r : ℤ × ℤ) (rs : List (ℤ × ℤ)) → r.0 ≤ℤ r.1 → AreRanges rs → ((x : ℤ) → IsInSet rs x → (r.1 +ℤ pos 1) <ℤ x) → AreRanges (r ∷ rs)
prepend r [] le h f = le
prepend r (s ∷ rs) le h f = (le, f s.0 (least_is_in s rs h), h)

-- ---- parts

pub in_drop : (n : ℕ) (rs : List (ℤ × ℤ)) (x : ℤ) → IsInSet (drop n rs) x → IsInSet rs x
in_drop zero rs x i = i
in_drop (suc n) [] x i = absurd i
in_drop (suc n) (r ∷ rs) x i = inr (in_drop n rs x i)

pub AreRanges-drop : (n : ℕ) (rs : List (ℤ × ℤ)) → AreRanges rs → AreRanges (drop n rs)
AreRanges-drop zero rs h = h
AreRanges-drop (suc n) [] h = tt
AreRanges-drop (suc n) (r ∷ rs) h = AreRanges-drop n rs (AreRanges-tail r rs h)

pub taken : (n : ℕ) (rs : List (ℤ × ℤ)) (u x : ℤ) → ((k : ℕ) → n ≤ k → k < length rs → u <ℤ (get_or rs k (pos 0, pos 0)).0) → x ≤ℤ u → IsInSet rs x → IsInSet (take n rs) x
taken n [] u x f le i = absurd i
taken zero (r ∷ rs) u x f le i =
    let p = at_place (r ∷ rs) x i in
    let q = (p.2 (pos 0, pos 0)).0 in
    let l = f p.0 (omega arith) p.1 in
    absurd (omega (arith, ints))
taken (suc n) (r ∷ rs) u x f le (inl i) = inl i
taken (suc n) (r ∷ rs) u x f le (inr i) = inr (taken n rs u x (λ k a b. f (suc k) (omega (arith, a)) (omega (arith, b))) le i)

pub dropped : (n : ℕ) (rs : List (ℤ × ℤ)) (l x : ℤ) → ((k : ℕ) → k < n → k < length rs → (get_or rs k (pos 0, pos 0)).1 <ℤ l) → l ≤ℤ x → IsInSet rs x → IsInSet (drop n rs) x
dropped n [] l x f le i = absurd i
dropped zero (r ∷ rs) l x f le i = i
dropped (suc n) (r ∷ rs) l x f le (inl i) = let t = f 0 (omega arith) (omega arith) in let j = i.1 in absurd (omega (arith, ints))
dropped (suc n) (r ∷ rs) l x f le (inr i) = dropped n rs l x (λ k a b. f (suc k) (omega (arith, a)) (omega (arith, b))) le i

taken_at : (n : ℕ) (rs : List (ℤ × ℤ)) (m : ℕ) (r d : ℤ × ℤ) → m < n → m < length rs → get_or (take n rs) m r ≡ get_or rs m d
taken_at n [] m r d lt l = absurd (omega (arith, l))
taken_at zero (s ∷ rs) m r d lt l = absurd (omega (arith, lt))
taken_at (suc n) (s ∷ rs) zero r d lt l = refl
taken_at (suc n) (s ∷ rs) (suc m) r d lt l = taken_at n rs m r d (omega (arith, lt)) (omega (arith, l))

pub dropped_at : (n : ℕ) (rs : List (ℤ × ℤ)) (s : ℤ × ℤ) (ds : List (ℤ × ℤ)) (d : ℤ × ℤ) → drop n rs ≡ s ∷ ds → get_or rs n d ≡ s
dropped_at zero [] s ds d e = absurd (cc)
dropped_at (suc n) [] s ds d e = absurd (cc)
dropped_at zero (r ∷ rs) s ds d e = cc
dropped_at (suc n) (r ∷ rs) s ds d e = dropped_at n rs s ds d e

-- ---- the last range, cut from above, and the first, cut from below

pub part_within : (rs es : List (ℤ × ℤ)) → AreRanges es → AreWithinLimits rs → ((x : ℤ) → IsInSet es x → IsInSet rs x) → AreWithinLimits es
part_within rs es h w f = within_all es h (λ x i. within_limits rs x w (f x i))

-- n is where the first range that begins above u stands
abbrev pub IsFirstAbove : List (ℤ × ℤ) → ℤ → ℕ → Type 0
IsFirstAbove rs u n = ((k : ℕ) → k < n → k < length rs → (get_or rs k (pos 0, pos 0)).0 ≤ℤ u) × ((k : ℕ) → n ≤ k → k < length rs → u <ℤ (get_or rs k (pos 0, pos 0)).0)

-- n is where the first range that ends at or above l stands
abbrev pub IsFirstReaching : List (ℤ × ℤ) → ℤ → ℕ → Type 0
IsFirstReaching rs l n = ((k : ℕ) → k < n → k < length rs → (get_or rs k (pos 0, pos 0)).1 <ℤ l) × ((k : ℕ) → n ≤ k → k < length rs → l ≤ℤ (get_or rs k (pos 0, pos 0)).1)

record IsLowCut (u : ℤ) (rs es : List (ℤ × ℤ)) : Type 0 where
  ranges : AreRanges es
  to : (x : ℤ) → IsInSet es x → IsInSet rs x × (x ≤ℤ u)
  from : (x : ℤ) → IsInSet rs x → x ≤ℤ u → IsInSet es x

low_cut : (m : ℕ) (rs : List (ℤ × ℤ)) (u : ℤ) → AreRanges rs → m < length rs → (get_or rs m (pos 0, pos 0)).0 ≤ℤ u
    → ((k : ℕ) → m < k → k < length rs → u <ℤ (get_or rs k (pos 0, pos 0)).0)
    → IsLowCut u rs (set (take (suc m) rs) m ((get_or rs m (pos 0, pos 0)).0, int_min (get_or rs m (pos 0, pos 0)).1 u))
low_cut m [] u h l le f = absurd (omega (arith, l))
low_cut zero (r ∷ rs) u h l le f =
    let p = AreRanges-head r rs h in
    record {
      ranges = omega (arith, ints, clamps);
      to = λ x i. elim i [ inl j ↦ (let a = j.0 in let b = j.1 in (inl (omega (arith, ints), omega (arith, ints, clamps)), omega (arith, ints, clamps))) | inr j ↦ absurd j ];
      from = λ x i t. elim i [
        | inl j ↦ (let a = j.0 in let b = j.1 in inl (omega (arith, ints), omega (arith, ints, clamps)))
        | inr j ↦ absurd (
            let q = at_place rs x j in
            let a = (q.2 (pos 0, pos 0)).0 in
            let b = f (suc q.0) (omega arith) (omega (arith, q.1)) in omega (arith, ints))
      ];
    }
low_cut (suc m) (r ∷ rs) u h l le f =
    let c = low_cut m rs u (AreRanges-tail r rs h) (omega (arith, l)) le (λ k a b. f (suc k) (omega (arith, a)) (omega (arith, b))) in
    let es = set (take (suc m) rs) m ((get_or rs m (pos 0, pos 0)).0, int_min (get_or rs m (pos 0, pos 0)).1 u) in
    let g = above_gap r rs (get_or rs m (pos 0, pos 0)).0 h
    (from_place rs (get_or rs m (pos 0, pos 0)).0 m (pos 0, pos 0) (omega (arith, l)) (omega (arith, ints), proper rs m (pos 0, pos 0) (AreRanges-tail r rs h) (omega (arith, l)))) in
    record {
      ranges = prepend r es (AreRanges-head r rs h) c.ranges (λ x i. above_gap r rs x h (c.to x i).0);
      to = λ x i. elim i [ inl j ↦ (let b = j.1 in (inl j, omega (arith, ints))) | inr j ↦ (let q = c.to x j in (inr q.0, q.1)) ];
      from = λ x i t. elim i [ inl j ↦ inl j | inr j ↦ inr (c.from x j t) ];
    }

pub low_part : (rs : List (ℤ × ℤ)) (u : ℤ) (n m : ℕ) (r : ℤ × ℤ) (a b : ℤ) → AreRanges rs → AreWithinLimits rs → IsFirstAbove rs u n → suc m ≡ n → m < length rs
    → r ≡ get_or (take n rs) m r → a ≡ r.0 → b ≡ int_min r.1 u → IsPart (λ x. x ≤ℤ u) rs (set (take n rs) m (a, b))
low_part rs u n m r a b h w f e l q d g =
    let d0 : ℤ × ℤ = (pos 0, pos 0) in
    let s : r ≡ get_or rs m d0 = q ∙ taken_at n rs m r d0 (omega arith) l in
    let s0 : a ≡ (get_or rs m d0).0 = d ∙ ap (λ (p : ℤ × ℤ). p.0) s in
    let s1 : b ≡ int_min (get_or rs m d0).1 u = g ∙ ap (λ (p : ℤ × ℤ). int_min p.1 u) s in
    let c = low_cut m rs u h l (f.0 m (omega arith) l) (λ k x y. f.1 k (omega (arith, x)) y) in
    let es = set (take n rs) m (a, b) in
    let same : set (take (suc m) rs) m ((get_or rs m d0).0, int_min (get_or rs m d0).1 u) ≡ es = rw (e, s0, s1) refl in
    let k = subst (λ (l : List (ℤ × ℤ)). IsLowCut u rs l) same c in
    record { ranges = k.ranges; within = part_within rs es k.ranges w (λ x i. (k.to x i).0); members = λ x. (λ i. k.to x i, λ m. k.from x m.0 m.1) }

pub low_none : (rs : List (ℤ × ℤ)) (u : ℤ) (n : ℕ) → length (take n rs) ≡ 0 → IsFirstAbove rs u n → IsPart (λ x. x ≤ℤ u) rs (take n rs)
low_none rs u n e f =
    let z = nil_from_length (take n rs) e in
    rw z record {
      ranges = tt;
      within = tt;
      members = λ x. (λ i. absurd i, λ p. subst (λ (l : List (ℤ × ℤ)). IsInSet l x) z (taken n rs u x f.1 p.1 p.0));
    }

raised_first : (l : ℤ) (r : ℤ × ℤ) (rs : List (ℤ × ℤ)) → l ≤ℤ r.1 → AreRanges (r ∷ rs) → AreRanges ((int_max r.0 l, r.1) ∷ rs)
raised_first l r [] le h = let a : r.0 ≤ℤ r.1 = h in omega (arith, ints, clamps)
raised_first l r (s ∷ rs) le h = let a = h.0 in (omega (arith, ints, clamps), h.1, h.2)

pub high_part : (rs es : List (ℤ × ℤ)) (r : ℤ × ℤ) (l : ℤ) (n : ℕ) → AreRanges rs → AreWithinLimits rs → drop n rs ≡ r ∷ es → l ≤ℤ r.1
    → ((k : ℕ) → k < n → k < length rs → (get_or rs k (pos 0, pos 0)).1 <ℤ l) → IsPart (λ x. l ≤ℤ x) rs ((int_max r.0 l, r.1) ∷ es)
high_part rs es r l n h w e le f =
    let k : AreRanges (r ∷ es) = subst AreRanges e (AreRanges-drop n rs h) in
    let g = raised_first l r es le k in
    let m : (x : ℤ) → IsInSet ((int_max r.0 l, r.1) ∷ es) x ↔ (IsInSet rs x × (l ≤ℤ x)) = (λ x. (
      λ i. elim i [
        | inl j ↦ (let a = j.0 in let b = j.1 in let q : IsInSet (r ∷ es) x = inl (omega (arith, ints, clamps), b) in
            (in_drop n rs x (subst (λ (l : List (ℤ × ℤ)). IsInSet l x) (sym e) q), omega (arith, ints, clamps)))
        | inr j ↦ (let a = above_gap r es x k j in let q : IsInSet (r ∷ es) x = inr j in
            (in_drop n rs x (subst (λ (l : List (ℤ × ℤ)). IsInSet l x) (sym e) q), omega (arith, ints)))
      ],
      λ p. (let i : IsInSet (r ∷ es) x = subst (λ (l : List (ℤ × ℤ)). IsInSet l x) e (dropped n rs l x f p.1 p.0) in
          elim i [ inl j ↦ (let a = j.0 in let b = j.1 in let c = p.1 in inl (omega (arith, ints, clamps), b)) | inr j ↦ inr j ]),
    )) in
    record { ranges = g; within = part_within rs ((int_max r.0 l, r.1) ∷ es) g w (λ x i. ((m x).0 i).0); members = m }

high_at : (ds rs : List (ℤ × ℤ)) (l : ℤ) (n : ℕ) (r : ℤ × ℤ) (a b : ℤ) → AreRanges rs → AreWithinLimits rs → IsFirstReaching rs l n → 0 < length ds
    → r ≡ get_or ds 0 r → a ≡ int_max r.0 l → b ≡ r.1 → drop n rs ≡ ds → IsPart (λ x. l ≤ℤ x) rs (set ds 0 (a, b))
high_at [] rs l n r a b h w f p q d e g = absurd (omega (arith, p))
high_at (s ∷ ds) rs l n r a b h w f p q d e g =
    let m : n < length rs = (let t = ap length g in let u = length-drop n rs in omega arith) in
    let v : get_or rs n (pos 0, pos 0) ≡ s = dropped_at n rs s ds (pos 0, pos 0) g in
    let le : l ≤ℤ s.1 = subst (λ (p : ℤ × ℤ). l ≤ℤ p.1) v (f.1 n (omega arith) m) in
    let k = high_part rs ds s l n h w g le f.0 in
    let x : a ≡ int_max s.0 l = d ∙ ap (λ (p : ℤ × ℤ). int_max p.0 l) q in
    let y : b ≡ s.1 = e ∙ ap (λ (p : ℤ × ℤ). p.1) q in
    rw (x, y) k

pub high_first : (rs : List (ℤ × ℤ)) (l : ℤ) (n : ℕ) (r : ℤ × ℤ) (a b : ℤ) → AreRanges rs → AreWithinLimits rs → IsFirstReaching rs l n → 0 < length (drop n rs)
    → r ≡ get_or (drop n rs) 0 r → a ≡ int_max r.0 l → b ≡ r.1 → IsPart (λ x. l ≤ℤ x) rs (set (drop n rs) 0 (a, b))
high_first rs l n r a b h w f p q d e = high_at (drop n rs) rs l n r a b h w f p q d e refl

pub high_none : (rs : List (ℤ × ℤ)) (l : ℤ) (n : ℕ) → length (drop n rs) ≡ 0 → IsFirstReaching rs l n → IsPart (λ x. l ≤ℤ x) rs (drop n rs)
high_none rs l n e f =
    let z = nil_from_length (drop n rs) e in
    rw z record {
      ranges = tt;
      within = tt;
      members = λ x. (λ i. absurd i, λ p. subst (λ (l : List (ℤ × ℤ)). IsInSet l x) z (dropped n rs l x f.0 p.1 p.0));
    }

-- ---- a cut

piece_ranges : (t : Bool) (a : ℤ × ℤ) (zs : List (ℤ × ℤ)) → (t ≡ true → a.0 ≤ℤ a.1) → (t ≡ true → (x : ℤ) → IsInSet zs x → (a.1 +ℤ pos 1) <ℤ x) → AreRanges zs
    → AreRanges (cond t (a ∷ []) [] ++ zs)
piece_ranges true a zs f g h = prepend a zs (f refl) h (g refl)
piece_ranges false a zs f g h = h

piece_in : (t : Bool) (a : ℤ × ℤ) (zs : List (ℤ × ℤ)) (x : ℤ) → IsInSet (cond t (a ∷ []) [] ++ zs) x ↔ (((t ≡ true) × IsInRange a x) ⊎ IsInSet zs x)
piece_in true a zs x = (λ i. elim i [ inl j ↦ inl (refl, j) | inr j ↦ inr j ], λ m. elim m [ inl j ↦ inl j.1 | inr j ↦ inr j ])
piece_in false a zs x = (λ i. inr i, λ m. elim m [ inl j ↦ absurd (false≢true j.0) | inr j ↦ j ])

below_in : (l : ℤ) (r : ℤ × ℤ) (x : ℤ) → ((int_lt r.0 l ≡ true) × IsInRange (r.0, int_min r.1 (l -ℤ pos 1)) x) ↔ (IsInRange r x × (x <ℤ l))
below_in l r x = let d = Decides-int_lt r.0 l in (
  λ m. (let t = d.0 m.0 in let a = m.1.0 in let b = m.1.1 in ((omega (arith, ints), omega (arith, ints, clamps)), omega (arith, ints, clamps))),
  λ m. (let a = m.0.0 in let b = m.0.1 in let c = m.1 in (d.1 (omega (arith, ints)), (omega (arith, ints), omega (arith, ints, clamps)))),
)

above_in : (u : ℤ) (r : ℤ × ℤ) (x : ℤ) → ((int_lt u r.1 ≡ true) × IsInRange (int_max r.0 (u +ℤ pos 1), r.1) x) ↔ (IsInRange r x × (u <ℤ x))
above_in u r x = let d = Decides-int_lt u r.1 in (
  λ m. (let t = d.0 m.0 in let a = m.1.0 in let b = m.1.1 in ((omega (arith, ints, clamps), omega (arith, ints)), omega (arith, ints, clamps))),
  λ m. (let a = m.0.0 in let b = m.0.1 in let c = m.1 in (d.1 (omega (arith, ints)), (omega (arith, ints, clamps), omega (arith, ints)))),
)

pub outside : (l u x : ℤ) → ((l ≤ℤ x) × (x ≤ℤ u) → ⊥) → (x <ℤ l) ⊎ (u <ℤ x)
outside l u x n = by_lt_z x l (λ a. inl a) (λ b. by_lt_z u x (λ c. inr c) (λ d. absurd (n (b, d))))

record IsCut (l u : ℤ) (rs es : List (ℤ × ℤ)) : Type 0 where
  ranges : AreRanges es
  to : (x : ℤ) → IsInSet es x → IsInSet rs x × ((l ≤ℤ x) × (x ≤ℤ u) → ⊥)
  from : (x : ℤ) → IsInSet rs x → ((l ≤ℤ x) × (x ≤ℤ u) → ⊥) → IsInSet es x

cut_is : (l u : ℤ) (rs : List (ℤ × ℤ)) → l ≤ℤ u → AreRanges rs → IsCut l u rs (cut_ranges l u rs)
cut_is l u [] le h = record { ranges = tt; to = λ x i. absurd i; from = λ x i n. absurd i }
cut_is l u (r ∷ rs) le h =
    let c = cut_is l u rs le (AreRanges-tail r rs h) in
    let zs = cut_ranges l u rs in
    let p = AreRanges-head r rs h in
    let hi : ℤ × ℤ = (int_max r.0 (u +ℤ pos 1), r.1) in
    let lo : ℤ × ℤ = (r.0, int_min r.1 (l -ℤ pos 1)) in
    let later : (x : ℤ) → IsInSet zs x → (r.1 +ℤ pos 1) <ℤ x = (λ x i. above_gap r rs x h (c.to x i).0) in
    let up = piece_ranges (int_lt u r.1) hi zs (λ t. let d = (Decides-int_lt u r.1).0 t in omega (arith, ints, clamps)) (λ t x i. later x i) c.ranges in
    let ups = above u r ++ zs in
    let low_ok : int_lt r.0 l ≡ true → lo.0 ≤ℤ lo.1 = (λ t. let d = (Decides-int_lt r.0 l).0 t in omega (arith, ints, clamps)) in
    let gap : int_lt r.0 l ≡ true → (x : ℤ) → IsInSet ups x → (lo.1 +ℤ pos 1) <ℤ x = (λ t x i. elim ((piece_in (int_lt u r.1) hi zs x).0 i) [
      | inl j ↦ (let q = (above_in u r x).0 j in let s = q.1 in let v = q.0.0 in omega (arith, ints, clamps))
      | inr j ↦ (let s = later x j in omega (arith, ints, clamps))
    ]) in
    record {
      ranges = piece_ranges (int_lt r.0 l) lo ups low_ok gap up;
      to = λ x i. elim ((piece_in (int_lt r.0 l) lo ups x).0 i) [
        | inl j ↦ (let q = (below_in l r x).0 j in let s = q.1 in (inl q.0, λ m. let a = m.0 in omega (arith, ints)))
        | inr k ↦ elim ((piece_in (int_lt u r.1) hi zs x).0 k) [
          | inl j ↦ (let q = (above_in u r x).0 j in let s = q.1 in (inl q.0, λ m. let a = m.1 in omega (arith, ints)))
          | inr j ↦ (let q = c.to x j in (inr q.0, q.1))
        ]
      ];
      from = λ x i n. elim i [
        | inl j ↦ elim (outside l u x n) [
          | inl s ↦ (piece_in (int_lt r.0 l) lo ups x).1 (inl ((below_in l r x).1 (j, s)))
          | inr s ↦ (piece_in (int_lt r.0 l) lo ups x).1 (inr ((piece_in (int_lt u r.1) hi zs x).1 (inl ((above_in u r x).1 (j, s)))))
        ]
        | inr j ↦ (piece_in (int_lt r.0 l) lo ups x).1 (inr ((piece_in (int_lt u r.1) hi zs x).1 (inr (c.from x j n))))
      ];
    }

pub cut_part : (l u : ℤ) (rs : List (ℤ × ℤ)) → l ≤ℤ u → AreRanges rs → AreWithinLimits rs → IsPart (λ x. (l ≤ℤ x) × (x ≤ℤ u) → ⊥) rs (cut_ranges l u rs)
cut_part l u rs le h w =
    let c = cut_is l u rs le h in
    record {
      ranges = c.ranges;
      within = part_within rs (cut_ranges l u rs) c.ranges w (λ x i. (c.to x i).0);
      members = λ x. (λ i. c.to x i, λ m. c.from x m.0 m.1);
    }

-- ---- fewer numbers: the same list, or a smaller size

IsAmongThese : List (ℤ × ℤ) → List (ℤ × ℤ) → Type 0
IsAmongThese es ds = (x : ℤ) → IsInSet es x → IsInSet ds x

OrLess : List (ℤ × ℤ) → List (ℤ × ℤ) → Type 0
OrLess es ds = (es ≡ ds) ⊎ (set_size es < set_size ds)

less_by : (q : ℤ × ℤ) (es ds : List (ℤ × ℤ)) → OrLess es ds → set_size es < set_size (q ∷ ds)
unfolding OrLess
less_by q es ds (inl e) = let f = ap set_size e in omega arith
less_by q es ds (inr l) = omega (arith, l)

at_most : (es ds : List (ℤ × ℤ)) → OrLess es ds → set_size es ≤ set_size ds
unfolding OrLess
at_most es ds (inl e) = let f = ap set_size e in omega arith
at_most es ds (inr l) = omega (arith, l)

lower_again : (t q : ℤ × ℤ) (ds : List (ℤ × ℤ)) → t.0 ≤ℤ t.1 → t.1 ≡ q.1 → AreRanges (q ∷ ds) → AreRanges (t ∷ ds)
lower_again t q [] le e h = le
lower_again t q (s ∷ ds) le e h = let a = h.1 in (le, omega (arith, ints), h.2)

-- the first range of the one lies in the first of the other, and ends there
ends_alike : (r q : ℤ × ℤ) (es ds : List (ℤ × ℤ)) → r.1 ≡ q.1 → q.0 ≤ℤ r.0 → r.0 ≤ℤ r.1 → OrLess es ds → OrLess (r ∷ es) (q ∷ ds)
unfolding OrLess
ends_alike r q es ds e le p (inr l) = inr (omega (arith, ints, l))
ends_alike (a, b) (c, d) es ds e le p (inl f) = by_lt_z c a
    (λ lt. inr (let g = ap set_size f in omega (arith, ints)))
    (λ ge. let g : a ≡ c = omega (arith, ints) in inl cc)

-- what is left of a range after a number
behind : (b : ℤ) (q : ℤ × ℤ) (ds : List (ℤ × ℤ)) → AreRanges (q ∷ ds) → b <ℤ q.1 → q.0 ≤ℤ b
    → (ts : List (ℤ × ℤ)) × AreRanges ts × ((x : ℤ) → (b +ℤ pos 1) <ℤ x → IsInSet (q ∷ ds) x → IsInSet ts x) × (pos (set_size ts) ≤ℤ ((q.1 -ℤ b) -ℤ pos 1 +ℤ pos (set_size ds)))
behind b q ds h lt le = by_lt_z (b +ℤ pos 1) q.1
    (λ s. let t : ℤ × ℤ = (b +ℤ pos 2, q.1) in (
      t ∷ ds,
      lower_again t q ds (omega (arith, ints)) refl h,
      λ x l i. elim i [ inl j ↦ inl (omega (arith, ints), j.1) | inr j ↦ inr j ],
      omega (arith, ints),
    ))
    (λ s. (ds, AreRanges-tail q ds h, λ x l i. elim i [ inl j ↦ absurd (let c = j.1 in omega (arith, ints)) | inr j ↦ j ], omega (arith, ints)))

-- a run of numbers of the set lies in one of its ranges
within_one : (r q : ℤ × ℤ) (es ds : List (ℤ × ℤ)) → AreRanges (r ∷ es) → AreRanges (q ∷ ds) → IsAmongThese (r ∷ es) (q ∷ ds) → r.0 ≤ℤ q.1 → (q.0 ≤ℤ r.0) × (r.1 ≤ℤ q.1)
unfolding IsAmongThese
within_one r q es ds h k f le =
    let p = AreRanges-head r es h in
    let a = lower_bound q ds r.0 k (f r.0 (inl (omega (arith, ints), p))) in (
      a,
      by_lt_z q.1 r.1
          (λ lt. let i : IsInSet (r ∷ es) (q.1 +ℤ pos 1) = inl (omega (arith, ints), omega (arith, ints)) in
          elim (f (q.1 +ℤ pos 1) i) [
            | inl j ↦ (let c = j.1 in omega (arith, ints))
            | inr j ↦ (let c = above_gap q ds (q.1 +ℤ pos 1) k j in omega (arith, ints))
          ])
          (λ ge. ge),
    )

step_less : (r : ℤ × ℤ) (es : List (ℤ × ℤ)) → AreRanges (r ∷ es) → ((ds : List (ℤ × ℤ)) → AreRanges ds → IsAmongThese es ds → OrLess es ds)
    → (ds : List (ℤ × ℤ)) → AreRanges ds → IsAmongThese (r ∷ es) ds → OrLess (r ∷ es) ds
unfolding IsAmongThese OrLess
step_less r es h g [] k f = absurd (f r.0 (least_is_in r es h))
step_less r es h g (q ∷ ds) k f =
    let p = AreRanges-head r es h in
    by_lt_z q.1 r.0
    (λ lt. inr (less_by q (r ∷ es) ds (step_less r es h g ds (AreRanges-tail q ds k) (λ x i.
    elim (f x i) [ inl j ↦ absurd (let a = lower_bound r es x h i in let b = j.1 in omega (arith, ints)) | inr j ↦ j ]))))
    (λ ge. let o = within_one r q es ds h k f ge in
    let o0 = o.0 in let o1 = o.1 in
    by_lt_z r.1 q.1
    (λ lt. let b = behind r.1 q ds k lt (omega (arith, ints)) in
    let t = g b.0 b.1 (λ x i. b.2 x (above_gap r es x h i) (f x (inr i))) in
    let n = at_most es b.0 t in
    let m = b.3 in
    inr (omega (arith, ints)))
    (λ ge2. let e : r.1 ≡ q.1 = omega (arith, ints) in
    ends_alike r q es ds e o0 p (g ds (AreRanges-tail q ds k) (λ x i.
    elim (f x (inr i)) [ inl j ↦ absurd (let a = above_gap r es x h i in let b = j.1 in omega (arith, ints)) | inr j ↦ j ]))))

fewer_or_less : (es : List (ℤ × ℤ)) → AreRanges es → (ds : List (ℤ × ℤ)) → AreRanges ds → IsAmongThese es ds → OrLess es ds
unfolding OrLess
fewer_or_less [] h [] k f = inl refl
fewer_or_less [] h (q ∷ ds) k f = inr (omega arith)
fewer_or_less (r ∷ es) h ds k f = step_less r es h (λ ds k f. fewer_or_less es (AreRanges-tail r es h) ds k f) ds k f

pub same_or_less : (ds es : List (ℤ × ℤ)) → AreRanges ds → AreRanges es → ((x : ℤ) → IsInSet es x → IsInSet ds x) → (es ≡ ds) ⊎ (set_size es < set_size ds)
unfolding IsAmongThese OrLess
same_or_less ds es h k f = fewer_or_less es k ds h f

-- ---- a loop that gathers the bits of ranges

pub word_more : (word window more : ℕ) (rs ds : List (ℤ × ℤ)) (r : ℤ × ℤ) (es : List (ℤ × ℤ)) (base : ℤ) → ds ≡ r ∷ es
    → ((i : ℕ) → i < 64 → (bit_at more i ≡ 1) ↔ ((bit_at word i ≡ 1) ⊎ (bit_at window i ≡ 1)))
    → ((i : ℕ) → i < 64 → (bit_at window i ≡ 1) ↔ ((r.0 ≤ℤ (base +ℤ pos i)) × ((base +ℤ pos i) ≤ℤ r.1)))
    → ((i : ℕ) → i < 64 → ((bit_at word i ≡ 1) ⊎ IsInSet ds (base +ℤ pos i)) ↔ IsInSet rs (base +ℤ pos i))
    → (i : ℕ) → i < 64 → ((bit_at more i ≡ 1) ⊎ IsInSet es (base +ℤ pos i)) ↔ IsInSet rs (base +ℤ pos i)
word_more word window more rs ds r es base e f g h i l =
    let back : IsInSet (r ∷ es) (base +ℤ pos i) → IsInSet ds (base +ℤ pos i) = (λ m. subst (λ (t : List (ℤ × ℤ)). IsInSet t (base +ℤ pos i)) (sym e) m) in (
      λ m. (h i l).0 (elim m [
        | inl b ↦ elim ((f i l).0 b) [ inl w ↦ inl w | inr w ↦ inr (back (inl ((g i l).0 w))) ]
        | inr t ↦ inr (back (inr t))
      ]),
      λ m. elim ((h i l).1 m) [
        | inl w ↦ inl ((f i l).1 (inl w))
        | inr t ↦ elim (subst (λ (t : List (ℤ × ℤ)). IsInSet t (base +ℤ pos i)) e t) [ inl j ↦ inl ((f i l).1 (inr ((g i l).1 j))) | inr j ↦ inr j ]
      ],
    )

-- ---- from what a binary search says

pub lows_partition : (rs : List (ℤ × ℤ)) (u : ℤ) → AreRanges rs → IsPartitionedBy (λ (y : ℤ × ℤ). int_le y.0 u) rs
lows_partition rs u h = λ i j d le l t. let a = lows_rise rs i j d h le l in grind (arith, ints)

pub above_from : (rs : List (ℤ × ℤ)) (u : ℤ) (n : ℕ) → AllWithin (λ (y : ℤ × ℤ). int_le y.0 u ≡ true) rs 0 n → AllWithin (λ (y : ℤ × ℤ). int_le y.0 u ≡ false) rs n (length rs)
    → IsFirstAbove rs u n
above_from rs u n p q = (
  λ k a l. (let t = p k (pos 0, pos 0) (omega arith) a in grind (arith, ints)),
  λ k a l. (let t = q k (pos 0, pos 0) a l in grind (arith, ints)),
)

pub reaching_from : (rs : List (ℤ × ℤ)) (v : ℤ) (n : ℕ) → AllWithin (λ (y : ℤ × ℤ). int_lt y.1 v ≡ true) rs 0 n → AllWithin (λ (y : ℤ × ℤ). int_lt y.1 v ≡ false) rs n (length rs)
    → IsFirstReaching rs v n
reaching_from rs v n p q = (
  λ k a l. (let t = p k (pos 0, pos 0) (omega arith) a in grind (arith, ints)),
  λ k a l. (let t = q k (pos 0, pos 0) a l in grind (arith, ints)),
)

pub length_take : (n : ℕ) (rs : List (ℤ × ℤ)) {ts : List (ℤ × ℤ)} → n ≤ length ts → ts ≡ rs → length (take n rs) ≡ n
length_take n rs {ts} le e = let f = ap length e in length-take-le n rs (omega arith)

-- ---- a loop that cuts each range

pub below_some : (l a b : ℤ) (r : ℤ × ℤ) → r.0 <ℤ l → a ≡ r.0 → b ≡ int_min r.1 (l -ℤ pos 1) → (a, b) ∷ [] ≡ below l r
below_some l a b r lt d e = let t = (Decides-int_lt r.0 l).1 lt in rw (t, d, e) refl

pub below_none : (l : ℤ) (r : ℤ × ℤ) → l ≤ℤ r.0 → [] ≡ below l r
below_none l r le = let t : int_lt r.0 l ≡ false = grind (arith, ints) in rw t refl

pub above_some : (u a b : ℤ) (r : ℤ × ℤ) → u <ℤ r.1 → b ≡ r.1 → a ≡ int_max r.0 (u +ℤ pos 1) → (a, b) ∷ [] ≡ above u r
above_some u a b r lt d e = let t = (Decides-int_lt u r.1).1 lt in rw (t, d, e) refl

pub above_none : (u : ℤ) (r : ℤ × ℤ) → r.1 ≤ℤ u → [] ≡ above u r
above_none u r le = let t : int_lt u r.1 ≡ false = grind (arith, ints) in rw t refl

pub cut_more : (l u : ℤ) (rs : List (ℤ × ℤ)) (i : ℕ) (a b c : List (ℤ × ℤ)) → i < length rs → b ≡ a ++ below l (get_or rs i (pos 0, pos 0))
    → c ≡ b ++ above u (get_or rs i (pos 0, pos 0)) → a ++ cut_ranges l u (drop i rs) ≡ cut_ranges l u rs → c ++ cut_ranges l u (drop (i + 1) rs) ≡ cut_ranges l u rs
cut_more l u rs i a b c lt e f h =
    let r = get_or rs i (pos 0, pos 0) in
    let zs = cut_ranges l u (drop (i + 1) rs) in
    let d : cut_ranges l u (drop i rs) ≡ below l r ++ (above u r ++ zs) = ap (λ (t : List (ℤ × ℤ)). cut_ranges l u t) (drop_more rs i (pos 0, pos 0) lt) in
    rw (f, e) (append_assoc (a ++ below l r) (above u r) zs ∙ append_assoc a (below l r) (above u r ++ zs) ∙ ap (λ (t : List (ℤ × ℤ)). a ++ t) (sym d) ∙ h)
