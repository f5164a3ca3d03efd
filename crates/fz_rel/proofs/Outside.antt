-- The numbers outside a set.
use Rattle.std.proofs.Common.{◌≡◌, ℕ, zero, suc, ◌<◌, ◌≤◌, ◌+◌, add-one, ℤ, pos, ◌+ℤ◌, ◌-ℤ◌, ◌≤ℤ◌, ◌<ℤ◌, Bool, true, false, cond, List, [], ◌∷◌, ◌++◌, refl, sym, subst, length, take, get_or, arith, inl, inr, ◌⊎◌}
use Rattle.std.specs.Prelude.{◌↔◌, int_lt}
use Rattle.std.proofs.lemmas.Bool.{false≢true}
use Rattle.std.proofs.lemmas.Int.{ints, by_lt_z}
use Rattle.std.proofs.lemmas.List.{take_all}
use Rattle.fz_sets.specs.Sets.{IsInSet, IsInRange, LEAST, GREATEST, AreOneSet, AreRanges, AreWithinLimits, IsWithinLimits}
use Rattle.fz_sets.proofs.Numbers.{Decides-int_lt}
use Rattle.fz_dom.proofs.Ranges.{proper}
use Rattle.fz_rel.specs.Reified.{AreOthers, gap}

in_more : (i : ℕ) (rs : List (ℤ × ℤ)) (d : ℤ × ℤ) (x : ℤ) → i < length rs → IsInSet (take (suc i) rs) x → IsInSet (take i rs) x ⊎ IsInRange (get_or rs i d) x
in_more i [] d x inside is = absurd (omega (arith, inside))
in_more zero (r ∷ rs) d x inside (inl h) = inr h
in_more zero (r ∷ rs) d x inside (inr h) = absurd h
in_more (suc i) (r ∷ rs) d x inside (inl h) = inl (inl h)
in_more (suc i) (r ∷ rs) d x inside (inr h) = elim (in_more i rs d x (omega (arith, inside)) h) [ inl k ↦ inl (inr k) | inr k ↦ inr k ]

more_in : (i : ℕ) (rs : List (ℤ × ℤ)) (d : ℤ × ℤ) (x : ℤ) → i < length rs → IsInSet (take i rs) x ⊎ IsInRange (get_or rs i d) x → IsInSet (take (suc i) rs) x
more_in i [] d x inside is = absurd (omega (arith, inside))
more_in zero (r ∷ rs) d x inside (inl h) = absurd h
more_in zero (r ∷ rs) d x inside (inr h) = inl h
more_in (suc i) (r ∷ rs) d x inside (inl (inl h)) = inl h
more_in (suc i) (r ∷ rs) d x inside (inl (inr h)) = inr (more_in i rs d x (omega (arith, inside)) (inl h))
more_in (suc i) (r ∷ rs) d x inside (inr h) = inr (more_in i rs d x (omega (arith, inside)) (inr h))

-- ---- ranges put together, and one gap

in_both : (rs ss : List (ℤ × ℤ)) (x : ℤ) → IsInSet (rs ++ ss) x ↔ (IsInSet rs x ⊎ IsInSet ss x)
in_both [] ss x = (λ h. inr h, λ h. elim h [ inl k ↦ absurd k | inr k ↦ k ])
in_both (r ∷ rs) ss x = (
  (λ h. elim h [ inl k ↦ inl (inl k) | inr k ↦ elim ((in_both rs ss x).0 k) [ inl m ↦ inl (inr m) | inr m ↦ inr m ] ]),
  (λ h. elim h [ inl k ↦ elim k [ inl m ↦ inl m | inr m ↦ inr ((in_both rs ss x).1 (inl m)) ] | inr k ↦ inr ((in_both rs ss x).1 (inr k)) ]),
)

within_both : (rs ss : List (ℤ × ℤ)) → AreWithinLimits rs → AreWithinLimits ss → AreWithinLimits (rs ++ ss)
within_both [] ss left right = right
within_both (r ∷ rs) ss left right = (left.0, left.1, within_both rs ss left.2 right)

in_if : (t : Bool) (r : ℤ × ℤ) (x : ℤ) → IsInSet (cond t (r ∷ []) []) x ↔ ((t ≡ true) × IsInRange r x)
in_if true r x = (λ h. elim h [ inl k ↦ (refl, k) | inr k ↦ absurd k ], λ h. inl h.1)
in_if false r x = (λ h. absurd h, λ h. absurd (false≢true h.0))

within_if : (t : Bool) (r : ℤ × ℤ) → (t ≡ true → IsWithinLimits r.0 × IsWithinLimits r.1) → AreWithinLimits (cond t (r ∷ []) [])
within_if true r within = ((within refl).0, (within refl).1, tt)
within_if false r within = tt

in_gap : (from end x : ℤ) → IsInSet (gap from end) x ↔ ((from ≤ℤ x) × (x <ℤ end))
in_gap from end x = let is = in_if (int_lt from end) (from, end -ℤ pos 1) x in (
  (λ h. let a = (is.0 h).1.0 in let b = (is.0 h).1.1 in (a, omega (arith, ints, b))),
  (λ h. let a = h.0 in let b = h.1 in is.1 ((Decides-int_lt from end).1 (omega (arith, ints, a, b)), (a, omega (arith, ints, b)))),
)

within_gap : (from end : ℤ) → LEAST ≤ℤ from → end ≤ℤ (GREATEST +ℤ pos 1) → AreWithinLimits (gap from end)
within_gap from end least most = within_if (int_lt from end) (from, end -ℤ pos 1) (λ t.
    let below = (Decides-int_lt from end).0 t in (
      (least, omega (arith, ints, below, most)),
      (omega (arith, ints, least, below), omega (arith, ints, most)),
    ))

-- ---- places of rising ranges

next_above : (rs : List (ℤ × ℤ)) (i : ℕ) (d : ℤ × ℤ) → AreRanges rs → suc i < length rs → ((get_or rs i d).1 +ℤ pos 1) <ℤ (get_or rs (suc i) d).0
next_above [] i d h inside = absurd (omega (arith, inside))
next_above (r ∷ []) i d h inside = absurd (omega (arith, inside))
next_above (r ∷ s ∷ rs) zero d h inside = h.1
next_above (r ∷ s ∷ rs) (suc i) d h inside = next_above (s ∷ rs) i d h.2 (omega (arith, inside))

ends_within : (rs : List (ℤ × ℤ)) (i : ℕ) (d : ℤ × ℤ) → AreWithinLimits rs → i < length rs → IsWithinLimits (get_or rs i d).0 × IsWithinLimits (get_or rs i d).1
ends_within [] i d h inside = absurd (omega (arith, inside))
ends_within (r ∷ rs) zero d h inside = (h.0, h.1)
ends_within (r ∷ rs) (suc i) d h inside = ends_within rs i d h.2 (omega (arith, inside))

pub high_within : (rs : List (ℤ × ℤ)) (i : ℕ) (r : ℤ × ℤ) → AreWithinLimits rs → i < length rs → r ≡ get_or rs i (pos 0, pos 0) → IsWithinLimits r.1
high_within rs i r h inside is = rw is ((ends_within rs i (pos 0, pos 0) h inside).1)

-- ---- step by step

-- the gaps before a number, after the first ranges of a set
pub record AreGaps (set gaps : List (ℤ × ℤ)) (i : ℕ) (from : ℤ) : Type 0 where
  pub within : AreWithinLimits gaps
  pub least : LEAST ≤ℤ from
  pub most : from ≤ℤ (GREATEST +ℤ pos 1)
  pub are : (x : ℤ) → IsInSet gaps x ↔ (((LEAST ≤ℤ x) × (x <ℤ from)) × (IsInSet (take i set) x → ⊥))
  pub passed : (x : ℤ) → IsInSet (take i set) x → x <ℤ from
  pub next : i < length set → from ≤ℤ (get_or set i (pos 0, pos 0)).0

pub gaps_start : (set : List (ℤ × ℤ)) → AreWithinLimits set → AreGaps set [] 0 LEAST
gaps_start set h = record {
  within = tt;
  least = omega (arith, ints);
  most = omega (arith, ints);
  are = λ x. (λ k. absurd k, λ k. let a = k.0.0 in let b = k.0.1 in absurd (omega (arith, ints, a, b)));
  passed = λ x k. absurd k;
  next = λ inside. (ends_within set 0 (pos 0, pos 0) h inside).0.0;
}

-- a gap more, up to this end: what is in it isn't in the set
in_more_gaps : (set gaps : List (ℤ × ℤ)) (i : ℕ) (from end x : ℤ) → AreGaps set gaps i from → from ≤ℤ end
    → IsInSet (gaps ++ gap from end) x ↔ (((LEAST ≤ℤ x) × (x <ℤ end)) × (IsInSet (take i set) x → ⊥))
in_more_gaps set gaps i from end x g order = let both = in_both gaps (gap from end) x in let more = in_gap from end x in (
  (λ h. elim (both.0 h) [
    | inl k ↦ (let m = (g.are x).0 k in let a = m.0.0 in let b = m.0.1 in ((a, omega (arith, ints, b, order)), m.1))
    | inr k ↦ (let m = more.0 k in let a = m.0 in let b = m.1 in let least = g.least in ((omega (arith, ints, a, least), b), λ t. let c = g.passed x t in absurd (omega (arith, ints, a, c))))
  ]),
  (λ h. by_lt_z x from
      (λ below. both.1 (inl ((g.are x).1 ((h.0.0, below), h.1))))
      (λ above. both.1 (inr (more.1 (above, h.0.1))))),
)

one_more : (set gaps : List (ℤ × ℤ)) (i : ℕ) (from : ℤ) (r : ℤ × ℤ) → AreRanges set → AreWithinLimits set → i < length set → r ≡ get_or set i (pos 0, pos 0)
    → AreGaps set gaps i from → AreGaps set (gaps ++ gap from r.0) (suc i) (r.1 +ℤ pos 1)
one_more set gaps i from r rising limits inside is g =
    let d : ℤ × ℤ = (pos 0, pos 0) in
    let order : from ≤ℤ r.0 = rw is (g.next inside) in
    let some : r.0 ≤ℤ r.1 = rw is (proper set i d rising inside) in
    let ends : IsWithinLimits r.0 × IsWithinLimits r.1 = rw is (ends_within set i d limits inside) in
    let low = ends.0.1 in
    let high_least = ends.1.0 in
    let high = ends.1.1 in
    let more : (x : ℤ) → IsInSet (take (suc i) set) x → IsInSet (take i set) x ⊎ IsInRange r x = λ x. rw is (in_more i set d x inside) in
    let back : (x : ℤ) → IsInSet (take i set) x ⊎ IsInRange r x → IsInSet (take (suc i) set) x = λ x. rw is (more_in i set d x inside) in
    record {
      within = within_both gaps (gap from r.0) g.within (within_gap from r.0 g.least (omega (arith, ints, low)));
      least = omega (arith, ints, high_least);
      most = omega (arith, ints, high);
      are = λ x. let are = in_more_gaps set gaps i from r.0 x g order in (
        (λ h. let m = are.0 h in let a = m.0.0 in let b = m.0.1 in (
          (a, omega (arith, ints, b, some)),
          λ t. elim (more x t) [ inl k ↦ m.1 k | inr k ↦ (let c = k.0 in absurd (omega (arith, ints, b, c))) ],
        )),
        (λ h. by_lt_z x r.0
            (λ below. are.1 ((h.0.0, below), λ t. h.1 (back x (inl t))))
            (λ above. let b = h.0.1 in absurd (h.1 (back x (inr (above, omega (arith, ints, b))))))),
      );
      passed = λ x t. elim (more x t) [
        | inl k ↦ (let a = g.passed x k in omega (arith, ints, a, order, some))
        | inr k ↦ (let a = k.1 in omega (arith, ints, a))
      ];
      next = λ within. rw is (let a = next_above set i d rising within in omega (arith, ints, a));
    }

pub gaps_more : (set gaps : List (ℤ × ℤ)) (i : ℕ) (from low next : ℤ) (r : ℤ × ℤ) → AreRanges set → AreWithinLimits set → i < length set → r ≡ get_or set i (pos 0, pos 0)
    → low ≡ r.0 → next ≡ r.1 +ℤ pos 1 → AreGaps set gaps i from → AreGaps set (gaps ++ gap from low) (i + 1) next
gaps_more set gaps i from low next r rising limits inside is low_is next_is g = rw (add-one, low_is, next_is) (one_more set gaps i from r rising limits inside is g)

pub gaps_within : (set gaps : List (ℤ × ℤ)) (i : ℕ) (from : ℤ) → AreGaps set gaps i from → AreWithinLimits (gaps ++ gap from (pos 2147483647))
gaps_within set gaps i from g = within_both gaps (gap from (pos 2147483647)) g.within (within_gap from (pos 2147483647) g.least (omega (arith, ints)))

-- with the gap after the last range these are the numbers outside the set
pub gaps_all : (set gaps d : List (ℤ × ℤ)) (i : ℕ) (from : ℤ) → length set ≤ i → AreGaps set gaps i from → AreOneSet d (gaps ++ gap from (pos 2147483647)) → AreOthers set d
gaps_all set gaps d i from past g same x =
    let most = g.most in
    let are = in_more_gaps set gaps i from (pos 2147483647) x g (omega (arith, ints, most)) in
    let whole : take i set ≡ set = take_all i set past in (
      (λ h. let m = are.0 ((same x).0 h) in let a = m.0.0 in let b = m.0.1 in ((a, omega (arith, ints, b)), λ t. m.1 (subst (λ (s : List (ℤ × ℤ)). IsInSet s x) (sym whole) t))),
      (λ h. let a = h.0.0 in let b = h.0.1 in (same x).1 (are.1 ((a, omega (arith, ints, b)), λ t. h.1 (subst (λ (s : List (ℤ × ℤ)). IsInSet s x) whole t)))),
    )
