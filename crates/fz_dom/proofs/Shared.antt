-- Two lists of rising ranges, the one shifted: what is gathered of both, range by range.
use Rattle.std.proofs.Common.{◌≡◌, ℕ, zero, suc, ◌≤◌, ℤ, pos, ◌+ℤ◌, ◌-ℤ◌, ◌≤ℤ◌, ◌<ℤ◌, ◌⊎◌, inl, inr, Bool, true, false, cond, ◌+◌, ◌<◌, List, [], ◌∷◌, ◌++◌, length, get_or, drop, refl, subst, sym, arith}
use Rattle.std.specs.Prelude.{int_le, ◌↔◌}
use Rattle.std.specs.Int.{int_max, int_min}
use Rattle.std.proofs.lemmas.Int.{ints, clamps, by_lt_z}
use Rattle.std.proofs.lemmas.List.{drop_more}
use Rattle.fz_sets.specs.Sets.{AreRanges, AreWithinLimits, IsInRange, IsInSet, IsWithinLimits, interval, LEAST}
use Rattle.fz_dom.specs.Wide.{IsPart}
use Rattle.fz_dom.proofs.Ranges.{AreRanges-head, AreRanges-tail, above_gap}
use Rattle.fz_dom.proofs.Lists.{prepend, part_within}
use Rattle.fz_dom.proofs.Merging.{interval_ranges}

-- ---- lists one after the other

append_in : (xs ys : List (ℤ × ℤ)) (x : ℤ) → IsInSet (xs ++ ys) x → IsInSet xs x ⊎ IsInSet ys x
append_in [] ys x i = inr i
append_in (r ∷ xs) ys x (inl i) = inl (inl i)
append_in (r ∷ xs) ys x (inr i) = elim (append_in xs ys x i) [ inl j ↦ inl (inr j) | inr j ↦ inr j ]

in_append : (xs ys : List (ℤ × ℤ)) (x : ℤ) → IsInSet xs x ⊎ IsInSet ys x → IsInSet (xs ++ ys) x
in_append [] ys x (inl i) = absurd i
in_append [] ys x (inr i) = i
in_append (r ∷ xs) ys x (inl (inl i)) = inl i
in_append (r ∷ xs) ys x (inl (inr i)) = inr (in_append xs ys x (inl i))
in_append (r ∷ xs) ys x (inr i) = inr (in_append xs ys x (inr i))

append_ranges : (xs ys : List (ℤ × ℤ)) → AreRanges xs → AreRanges ys → ((x y : ℤ) → IsInSet xs x → IsInSet ys y → (x +ℤ pos 1) <ℤ y) → AreRanges (xs ++ ys)
append_ranges [] ys h k f = k
append_ranges (r ∷ xs) ys h k f =
    let p = AreRanges-head r xs h in
    prepend r (xs ++ ys) p (append_ranges xs ys (AreRanges-tail r xs h) k (λ x y i j. f x y (inr i) j))
    (λ x i. elim (append_in xs ys x i) [ inl j ↦ above_gap r xs x h j | inr j ↦ f r.1 x (inl (p, omega (arith, ints))) j ])

-- ---- what two ranges share

cond_interval : (t : Bool) (l u x : ℤ) → (t ≡ true → l ≤ℤ u) → (t ≡ false → u <ℤ l) → IsInSet (cond t ((l, u) ∷ []) []) x ↔ ((l ≤ℤ x) × (x ≤ℤ u))
cond_interval true l u x f g = (λ i. elim i [ inl j ↦ j | inr j ↦ absurd j ], λ m. inl m)
cond_interval false l u x f g = (λ i. absurd i, λ m. let lt = g refl in let a = m.0 in let b = m.1 in absurd (omega (arith, ints)))

interval_in : (l u x : ℤ) → IsInSet (interval l u) x ↔ ((l ≤ℤ x) × (x ≤ℤ u))
interval_in l u x = cond_interval (int_le l u) l u x (λ e. grind (arith, ints)) (λ e. grind (arith, ints))

-- m bounds the numbers within the limits that lie c above those of b
pub record IsMoved (c : ℤ) (b m : ℤ × ℤ) : Type 0 where
  pub low : (x : ℤ) → IsWithinLimits x → (m.0 ≤ℤ x) ↔ ((b.0 +ℤ c) ≤ℤ x)
  pub high : (x : ℤ) → IsWithinLimits x → (x ≤ℤ m.1) ↔ (x ≤ℤ (b.1 +ℤ c))

in_limits : (a : ℤ × ℤ) (x : ℤ) → IsWithinLimits a.0 → IsWithinLimits a.1 → IsInRange a x → IsWithinLimits x
in_limits a x p q i = let p0 = p.0 in let q1 = q.1 in let a0 = i.0 in let a1 = i.1 in (omega (arith, ints), omega (arith, ints))

overlap_to : (c : ℤ) (a b m : ℤ × ℤ) (x : ℤ) → IsWithinLimits a.0 → IsWithinLimits a.1 → IsMoved c b m
    → IsInSet (interval (int_max a.0 m.0) (int_min a.1 m.1)) x → IsInRange a x × IsInRange b (x -ℤ c)
overlap_to c a b m x p q v i =
    let k = (interval_in (int_max a.0 m.0) (int_min a.1 m.1) x).0 i in
    let k0 = k.0 in let k1 = k.1 in
    let r : IsInRange a x = (omega (arith, ints, clamps), omega (arith, ints, clamps)) in
    let w = in_limits a x p q r in
    let l = (v.low x w).0 (omega (arith, ints, clamps)) in
    let h = (v.high x w).0 (omega (arith, ints, clamps)) in
    (r, (omega (arith, ints), omega (arith, ints)))

overlap_from : (c : ℤ) (a b m : ℤ × ℤ) (x : ℤ) → IsWithinLimits a.0 → IsWithinLimits a.1 → IsMoved c b m
    → IsInRange a x → IsInRange b (x -ℤ c) → IsInSet (interval (int_max a.0 m.0) (int_min a.1 m.1)) x
overlap_from c a b m x p q v r s =
    let w = in_limits a x p q r in
    let r0 = r.0 in let r1 = r.1 in let s0 = s.0 in let s1 = s.1 in
    let l = (v.low x w).1 (omega (arith, ints)) in
    let h = (v.high x w).1 (omega (arith, ints)) in
    (interval_in (int_max a.0 m.0) (int_min a.1 m.1) x).1 (omega (arith, ints, clamps), omega (arith, ints, clamps))

-- ---- the steps

-- x lies in ms, and x - c in ts
abbrev pub IsShared : ℤ → List (ℤ × ℤ) → List (ℤ × ℤ) → ℤ → Type 0
IsShared c ms ts x = IsInSet ms x × IsInSet ts (x -ℤ c)

-- what is gathered, and what the ranges that are left share, is what the whole lists share
pub record IsSharing (c : ℤ) (kept ps bs ms ts : List (ℤ × ℤ)) : Type 0 where
  pub ranges : AreRanges kept
  pub mine : AreRanges ps
  pub theirs : AreRanges bs
  pub within : AreWithinLimits ps
  pub apart : (x y : ℤ) → IsInSet kept x → IsShared c ps bs y → (x +ℤ pos 1) <ℤ y
  pub to : (x : ℤ) → IsInSet kept x ⊎ IsShared c ps bs x → IsShared c ms ts x
  pub from : (x : ℤ) → IsShared c ms ts x → IsInSet kept x ⊎ IsShared c ps bs x

pub sharing_start : (c : ℤ) (ms ts : List (ℤ × ℤ)) → AreRanges ms → AreWithinLimits ms → AreRanges ts → IsSharing c [] ms ts ms ts
sharing_start c ms ts h w k = record {
  ranges = tt;
  mine = h;
  theirs = k;
  within = w;
  apart = λ x y i s. absurd i;
  to = λ x i. elim i [ inl j ↦ absurd j | inr j ↦ j ];
  from = λ x i. inr i;
}

-- exactly what both ranges share comes after what was gathered
record IsGathered (c : ℤ) (a b : ℤ × ℤ) (kept more : List (ℤ × ℤ)) : Type 0 where
  ranges : AreRanges more
  to : (x : ℤ) → IsInSet more x → IsInSet kept x ⊎ (IsInRange a x × IsInRange b (x -ℤ c))
  from : (x : ℤ) → IsInSet kept x ⊎ (IsInRange a x × IsInRange b (x -ℤ c)) → IsInSet more x

gathered : (c : ℤ) (a b m : ℤ × ℤ) (kept ps bs ms ts : List (ℤ × ℤ)) → IsSharing c kept (a ∷ ps) (b ∷ bs) ms ts → IsMoved c b m
    → IsGathered c a b kept (kept ++ interval (int_max a.0 m.0) (int_min a.1 m.1))
gathered c a b m kept ps bs ms ts s v =
    let p = s.within.0 in let q = s.within.1 in
    let piece = interval (int_max a.0 m.0) (int_min a.1 m.1) in
    record {
      ranges = append_ranges kept piece s.ranges (interval_ranges (int_max a.0 m.0) (int_min a.1 m.1))
          (λ x y i j. let o = overlap_to c a b m y p q v j in s.apart x y i (inl o.0, inl o.1));
      to = λ x i. elim (append_in kept piece x i) [ inl j ↦ inl j | inr j ↦ inr (overlap_to c a b m x p q v j) ];
      from = λ x i. in_append kept piece x (elim i [ inl j ↦ inl j | inr j ↦ inr (overlap_from c a b m x p q v j.0 j.1) ]);
    }

-- a ends first
next_mine : (c : ℤ) (a b : ℤ × ℤ) (kept more ps bs ms ts : List (ℤ × ℤ)) → IsSharing c kept (a ∷ ps) (b ∷ bs) ms ts → IsGathered c a b kept more
    → a.1 ≤ℤ (b.1 +ℤ c) → IsSharing c more ps (b ∷ bs) ms ts
next_mine c a b kept more ps bs ms ts s g le = record {
  ranges = g.ranges;
  mine = AreRanges-tail a ps s.mine;
  theirs = s.theirs;
  within = s.within.2;
  apart = λ x y i t. elim (g.to x i) [
    | inl j ↦ s.apart x y j (inr t.0, t.1)
    | inr j ↦ (let up = j.0.1 in let gap = above_gap a ps y s.mine t.0 in omega (arith, ints))
  ];
  to = λ x i. elim i [
    | inl j ↦ s.to x (elim (g.to x j) [ inl k ↦ inl k | inr k ↦ inr (inl k.0, inl k.1) ])
    | inr j ↦ s.to x (inr (inr j.0, j.1))
  ];
  from = λ x i. elim (s.from x i) [
    | inl j ↦ inl (g.from x (inl j))
    | inr j ↦ elim j.0 [
      | inl k ↦ elim j.1 [
        | inl l ↦ inl (g.from x (inr (k, l)))
        | inr l ↦ (let up = k.1 in let gap = above_gap b bs (x -ℤ c) s.theirs l in absurd (omega (arith, ints)))
      ]
      | inr k ↦ inr (k, j.1)
    ]
  ];
}

-- b ends first
next_theirs : (c : ℤ) (a b : ℤ × ℤ) (kept more ps bs ms ts : List (ℤ × ℤ)) → IsSharing c kept (a ∷ ps) (b ∷ bs) ms ts → IsGathered c a b kept more
    → (b.1 +ℤ c) <ℤ a.1 → IsSharing c more (a ∷ ps) bs ms ts
next_theirs c a b kept more ps bs ms ts s g lt = record {
  ranges = g.ranges;
  mine = s.mine;
  theirs = AreRanges-tail b bs s.theirs;
  within = s.within;
  apart = λ x y i t. elim (g.to x i) [
    | inl j ↦ s.apart x y j (t.0, inr t.1)
    | inr j ↦ (let up = j.1.1 in let gap = above_gap b bs (y -ℤ c) s.theirs t.1 in omega (arith, ints))
  ];
  to = λ x i. elim i [
    | inl j ↦ s.to x (elim (g.to x j) [ inl k ↦ inl k | inr k ↦ inr (inl k.0, inl k.1) ])
    | inr j ↦ s.to x (inr (j.0, inr j.1))
  ];
  from = λ x i. elim (s.from x i) [
    | inl j ↦ inl (g.from x (inl j))
    | inr j ↦ elim j.1 [
      | inl l ↦ elim j.0 [
        | inl k ↦ inl (g.from x (inr (k, l)))
        | inr k ↦ (let up = l.1 in let gap = above_gap a ps x s.mine k in absurd (omega (arith, ints)))
      ]
      | inr l ↦ inr (j.0, l)
    ]
  ];
}

pub sharing_mine : (c : ℤ) (a b m : ℤ × ℤ) (kept more ps bs ms ts : List (ℤ × ℤ)) → IsSharing c kept (a ∷ ps) (b ∷ bs) ms ts → IsMoved c b m
    → more ≡ kept ++ interval (int_max a.0 m.0) (int_min a.1 m.1) → a.1 ≤ℤ m.1 → IsSharing c more ps (b ∷ bs) ms ts
sharing_mine c a b m kept more ps bs ms ts s v e le =
    next_mine c a b kept more ps bs ms ts s (subst (λ (l : List (ℤ × ℤ)). IsGathered c a b kept l) (sym e) (gathered c a b m kept ps bs ms ts s v))
    ((v.high a.1 s.within.1).0 le)

pub sharing_theirs : (c : ℤ) (a b m : ℤ × ℤ) (kept more ps bs ms ts : List (ℤ × ℤ)) → IsSharing c kept (a ∷ ps) (b ∷ bs) ms ts → IsMoved c b m
    → more ≡ kept ++ interval (int_max a.0 m.0) (int_min a.1 m.1) → m.1 <ℤ a.1 → IsSharing c more (a ∷ ps) bs ms ts
sharing_theirs c a b m kept more ps bs ms ts s v e lt =
    next_theirs c a b kept more ps bs ms ts s (subst (λ (l : List (ℤ × ℤ)). IsGathered c a b kept l) (sym e) (gathered c a b m kept ps bs ms ts s v))
    (by_lt_z (b.1 +ℤ c) a.1 (λ t. t) (λ t. absurd (let k = (v.high a.1 s.within.1).1 t in omega (arith, ints))))

pub is_moved : (c : ℤ) (b : ℤ × ℤ) (m0 m1 r0 r1 v0 v1 c0 c1 : ℤ) → m0 ≡ r0 → m1 ≡ r1 → v0 ≡ b.0 → v1 ≡ b.1 → c0 ≡ c → c1 ≡ c
    → ((x : ℤ) → IsWithinLimits x → (r0 ≤ℤ x) ↔ ((v0 +ℤ c0) ≤ℤ x)) → ((x : ℤ) → IsWithinLimits x → (x ≤ℤ r1) ↔ (x ≤ℤ (v1 +ℤ c1))) → IsMoved c b (m0, m1)
is_moved c b m0 m1 r0 r1 v0 v1 c0 c1 e0 e1 f0 f1 g0 g1 low high = record {
  low = λ x w. let k = low x w in (
    (λ h. let t = k.0 (omega (arith, ints)) in omega (arith, ints)),
    (λ h. let t = k.1 (omega (arith, ints)) in omega (arith, ints)),
  );
  high = λ x w. let k = high x w in (
    (λ h. let t = k.0 (omega (arith, ints)) in omega (arith, ints)),
    (λ h. let t = k.1 (omega (arith, ints)) in omega (arith, ints)),
  );
}

-- one step of the lists by their places
same_overlap : (kept more : List (ℤ × ℤ)) (a : ℤ × ℤ) (a0 a1 m0 m1 : ℤ) → a0 ≡ a.0 → a1 ≡ a.1 → more ≡ kept ++ interval (int_max a0 m0) (int_min a1 m1)
    → more ≡ kept ++ interval (int_max a.0 m0) (int_min a.1 m1)
same_overlap kept more a a0 a1 m0 m1 e f g =
    subst (λ (x : ℤ). more ≡ kept ++ interval (int_max x m0) (int_min a.1 m1)) e (subst (λ (y : ℤ). more ≡ kept ++ interval (int_max a0 m0) (int_min y m1)) f g)

at_heads : (c : ℤ) (kept ms ts : List (ℤ × ℤ)) (i j : ℕ) → i < length ms → j < length ts → IsSharing c kept (drop i ms) (drop j ts) ms ts
    → IsSharing c kept (get_or ms i (pos 0, pos 0) ∷ drop (i + 1) ms) (get_or ts j (pos 0, pos 0) ∷ drop (j + 1) ts) ms ts
at_heads c kept ms ts i j li lj s =
    subst (λ (l : List (ℤ × ℤ)). IsSharing c kept (get_or ms i (pos 0, pos 0) ∷ drop (i + 1) ms) l ms ts) (drop_more ts j (pos 0, pos 0) lj)
    (subst (λ (l : List (ℤ × ℤ)). IsSharing c kept l (drop j ts) ms ts) (drop_more ms i (pos 0, pos 0) li) s)

pub step_mine : (c : ℤ) (kept more ms ts : List (ℤ × ℤ)) (i j : ℕ) (a0 a1 m0 m1 : ℤ) → i < length ms → j < length ts → IsSharing c kept (drop i ms) (drop j ts) ms ts
    → a0 ≡ (get_or ms i (pos 0, pos 0)).0 → a1 ≡ (get_or ms i (pos 0, pos 0)).1 → IsMoved c (get_or ts j (pos 0, pos 0)) (m0, m1)
    → more ≡ kept ++ interval (int_max a0 m0) (int_min a1 m1) → a1 ≤ℤ m1 → IsSharing c more (drop (i + 1) ms) (drop j ts) ms ts
step_mine c kept more ms ts i j a0 a1 m0 m1 li lj s e f v g le =
    let a = get_or ms i (pos 0, pos 0) in
    let b = get_or ts j (pos 0, pos 0) in
    subst (λ (l : List (ℤ × ℤ)). IsSharing c more (drop (i + 1) ms) l ms ts) (sym (drop_more ts j (pos 0, pos 0) lj))
    (sharing_mine c a b (m0, m1) kept more (drop (i + 1) ms) (drop (j + 1) ts) ms ts (at_heads c kept ms ts i j li lj s) v
    (same_overlap kept more a a0 a1 m0 m1 e f g) (subst (λ (y : ℤ). y ≤ℤ m1) f le))

pub step_theirs : (c : ℤ) (kept more ms ts : List (ℤ × ℤ)) (i j : ℕ) (a0 a1 m0 m1 : ℤ) → i < length ms → j < length ts → IsSharing c kept (drop i ms) (drop j ts) ms ts
    → a0 ≡ (get_or ms i (pos 0, pos 0)).0 → a1 ≡ (get_or ms i (pos 0, pos 0)).1 → IsMoved c (get_or ts j (pos 0, pos 0)) (m0, m1)
    → more ≡ kept ++ interval (int_max a0 m0) (int_min a1 m1) → m1 <ℤ a1 → IsSharing c more (drop i ms) (drop (j + 1) ts) ms ts
step_theirs c kept more ms ts i j a0 a1 m0 m1 li lj s e f v g lt =
    let a = get_or ms i (pos 0, pos 0) in
    let b = get_or ts j (pos 0, pos 0) in
    subst (λ (l : List (ℤ × ℤ)). IsSharing c more l (drop (j + 1) ts) ms ts) (sym (drop_more ms i (pos 0, pos 0) li))
    (sharing_theirs c a b (m0, m1) kept more (drop (i + 1) ms) (drop (j + 1) ts) ms ts (at_heads c kept ms ts i j li lj s) v
    (same_overlap kept more a a0 a1 m0 m1 e f g) (subst (λ (y : ℤ). m1 <ℤ y) f lt))

-- ---- what is appended

pub overlap_some : (l u a b : ℤ) → l ≤ℤ u → a ≡ l → b ≡ u → (a, b) ∷ [] ≡ interval l u
overlap_some l u a b le e f = let t : int_le l u ≡ true = grind (arith, ints) in rw (t, e, f) refl

pub overlap_none : (l u : ℤ) → u <ℤ l → [] ≡ interval l u
overlap_none l u lt = let t : int_le l u ≡ false = grind (arith, ints) in rw t refl

-- ---- where a word begins that holds moved numbers

pub window_in : (m lo s hi t x : ℤ) → m ≡ int_max lo (int_min s hi) → lo ≡ LEAST → s ≡ t → hi ≡ pos 2147483583 → IsWithinLimits x → t ≤ℤ x → x ≤ℤ (t +ℤ pos 63)
    → (m ≤ℤ x) × (x ≤ℤ (m +ℤ pos 63))
window_in m lo s hi t x e f g h w low high = let a = w.0 in let b = w.1 in (omega (arith, ints, clamps), omega (arith, ints, clamps))

-- ---- the end

beyond : (n : ℕ) (rs : List (ℤ × ℤ)) (x : ℤ) → length rs ≤ n → IsInSet (drop n rs) x → ⊥
beyond zero [] x l i = i
beyond zero (r ∷ rs) x l i = absurd (omega (arith, l))
beyond (suc n) [] x l i = i
beyond (suc n) (r ∷ rs) x l i = beyond n rs x (omega (arith, l)) i

pub sharing_done : (c : ℤ) (kept ms ts : List (ℤ × ℤ)) (i j : ℕ) → IsSharing c kept (drop i ms) (drop j ts) ms ts → AreWithinLimits ms
    → (length ms ≤ i) ⊎ (length ts ≤ j) → IsPart (λ x. IsInSet ts (x -ℤ c)) ms kept
sharing_done c kept ms ts i j s w done = record {
  ranges = s.ranges;
  within = part_within ms kept s.ranges w (λ x k. (s.to x (inl k)).0);
  members = λ x. (
    λ k. s.to x (inl k),
    λ m. elim (s.from x m) [
      | inl k ↦ k
      | inr k ↦ absurd (elim done [ inl t ↦ beyond i ms x t k.0 | inr t ↦ beyond j ts (x -ℤ c) t k.1 ])
    ],
  );
}
