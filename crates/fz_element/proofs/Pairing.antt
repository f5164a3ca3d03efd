-- The indices whose number is left, index by index.
use Rattle.std.proofs.Common.{◌≡◌, ℕ, zero, suc, ◌+◌, ◌<◌, ◌≤◌, List, [], ◌∷◌, ◌++◌, sym, subst, arith, length, take, get_or, inl, inr, ◌⊎◌}
use Rattle.std.specs.Int.{int_max, int_min}
use Rattle.std.specs.Prelude.{ℤ, pos, ◌≤ℤ◌, ◌<ℤ◌, ◌+ℤ◌, ◌-ℤ◌, ◌↔◌, slice_get, Some, nat_abs}
use Rattle.std.proofs.lemmas.Int.{ints, clamps, by_lt_z}
use Rattle.std.proofs.lemmas.List.{take_all}
use Rattle.fz_dom.specs.Shape.{IsDomain}
use Rattle.fz_dom.proofs.Kept.{limits_of}
use Rattle.fz_dom.proofs.Ranges.{AreRanges-head, AreRanges-tail, above_gap, proper}
use Rattle.std.proofs.lemmas.Option.{slice_get_within}
use Rattle.fz_bits.specs.Words.{AreOnes}
use Rattle.fz_bits.specs.Windows.{IsBit}
use Rattle.fz_sets.specs.Sets.{IsInRange, IsInSet, IsWithinLimits, AreOneSet, AreRanges}
use Rattle.fz_spec.specs.Truth.{IsElement}
use Rattle.fz_prop.specs.Matching.{AreMatching}
use Rattle.fz_prop.proofs.Grown.{same_or_other, in_more, in_before, in_last, limits_more}
use Rattle.fz_prop.proofs.Partnering.{matching_as}
use Rattle.fz_element.specs.Selecting.{IsPair, ArePairs, ArePairsBelow, AreAllPairs}

-- ---- elements

pub element_from : (k : ℤ) (xs : List ℤ) (n : ℤ) → IsElement k xs n → pos 1 ≤ℤ k
element_from k xs n is = let e = is.1 in omega (arith, ints, e)

pub element_to : (k : ℤ) (xs : List ℤ) (n : ℤ) → IsElement k xs n → k ≤ℤ pos (length xs)
element_to k xs n is = let e = is.1 in let below = slice_get_within xs is.0 n is.2 in omega (arith, ints, e, below)

pub element_only : (k : ℤ) (xs : List ℤ) (n m : ℤ) → IsElement k xs n → IsElement k xs m → n ≡ m
element_only k xs n m is_n is_m =
    let e = is_n.1 in
    let f = is_m.1 in
    let same : is_n.0 ≡ is_m.0 = omega (arith, ints, e, f) in
    let at_n : slice_get xs is_m.0 ≡ Some n = subst (λ (i : ℕ). slice_get xs i ≡ Some n) same is_n.2 in
    cc (at_n, is_m.2)

-- ---- the loop

pub pairs_none : (xs : List ℤ) (D E : ℤ → Type 0) (j : ℤ) → ((k n : ℤ) → IsPair xs D E k n → j ≤ℤ k) → ArePairsBelow xs D E [] [] j
pairs_none xs D E j none = record {
  indices_are = λ k. ((λ is. absurd is), (λ h. let from = none k h.0 h.1 in let below = h.2 in absurd (omega (arith, ints, from, below))));
  numbers_are = λ n. ((λ is. absurd is), (λ h. let from = none h.0 n h.1 in let below = h.2 in absurd (omega (arith, ints, from, below))));
  index_limits = tt;
  number_limits = tt;
}

pub pairs_passed : (xs : List ℤ) (D E : ℤ → Type 0) (indices numbers : List (ℤ × ℤ)) (j : ℤ) → ((n : ℤ) → IsPair xs D E j n → ⊥) → ArePairsBelow xs D E indices numbers j
    → ArePairsBelow xs D E indices numbers (j +ℤ pos 1)
pairs_passed xs D E indices numbers j none h =
    let before : (k n : ℤ) → IsPair xs D E k n → k <ℤ (j +ℤ pos 1) → k <ℤ j = λ k n pair below. elim (same_or_other k j) [
      | inl same ↦ absurd (none n (subst (λ (i : ℤ). IsPair xs D E i n) same pair))
      | inr other ↦ omega (arith, ints, below, other)
    ] in
    record {
      indices_are = λ k. (
        (λ is. let p = (h.indices_are k).0 is in let below = p.2 in (p.0, p.1, omega (arith, ints, below))),
        (λ p. (h.indices_are k).1 (p.0, p.1, before k p.0 p.1 p.2)),
      );
      numbers_are = λ n. (
        (λ is. let p = (h.numbers_are n).0 is in let below = p.2 in (p.0, p.1, omega (arith, ints, below))),
        (λ p. (h.numbers_are n).1 (p.0, p.1, before p.0 n p.1 p.2)),
      );
      index_limits = h.index_limits;
      number_limits = h.number_limits;
    }

pub pairs_more : (xs : List ℤ) (D E : ℤ → Type 0) (indices numbers : List (ℤ × ℤ)) (j m : ℤ) → IsPair xs D E j m → IsWithinLimits j → IsWithinLimits m → ArePairsBelow xs D E indices numbers j
    → ArePairsBelow xs D E (indices ++ (j, j) ∷ []) (numbers ++ (m, m) ∷ []) (j +ℤ pos 1)
pairs_more xs D E indices numbers j m pair within_j within_m h = record {
  indices_are = λ k. (
    (λ is. elim (in_more indices j k is) [
      | inl i ↦ let p = (h.indices_are k).0 i in let below = p.2 in (p.0, p.1, omega (arith, ints, below))
      | inr same ↦ (m, subst (λ (i : ℤ). IsPair xs D E i m) (sym same) pair, omega (arith, ints, same))
    ]),
    (λ p. elim (same_or_other k j) [
      | inl same ↦ in_last indices j k same
      | inr other ↦ let below = p.2 in in_before indices j k ((h.indices_are k).1 (p.0, p.1, omega (arith, ints, below, other)))
    ]),
  );
  numbers_are = λ n. (
    (λ is. elim (in_more numbers m n is) [
      | inl i ↦ let p = (h.numbers_are n).0 i in let below = p.2 in (p.0, p.1, omega (arith, ints, below))
      | inr same ↦ (j, subst (λ (i : ℤ). IsPair xs D E j i) (sym same) pair, omega (arith, ints))
    ]),
    (λ p. elim (same_or_other p.0 j) [
      | inl same ↦ in_last numbers m n (element_only j xs n m (subst (λ (i : ℤ). IsElement i xs n) same p.1.stands) pair.stands)
      | inr other ↦ let below = p.2 in in_before numbers m n ((h.numbers_are n).1 (p.0, p.1, omega (arith, ints, below, other)))
    ]),
  );
  index_limits = limits_more indices j h.index_limits within_j;
  number_limits = limits_more numbers m h.number_limits within_m;
}

-- none has an index from j up to another
pub pairs_skipped : (xs : List ℤ) (D E : ℤ → Type 0) (indices numbers : List (ℤ × ℤ)) (j i : ℤ) → j ≤ℤ i → ((k n : ℤ) → IsPair xs D E k n → j ≤ℤ k → k <ℤ i → ⊥)
    → ArePairsBelow xs D E indices numbers j → ArePairsBelow xs D E indices numbers i
pairs_skipped xs D E indices numbers j i le none h =
    let before : (k n : ℤ) → IsPair xs D E k n → k <ℤ i → k <ℤ j = λ k n pair below. by_lt_z k j (λ lt. lt) (λ from. absurd (none k n pair from below)) in
    record {
      indices_are = λ k. (
        (λ is. let p = (h.indices_are k).0 is in let below = p.2 in (p.0, p.1, omega (arith, ints, below, le))),
        (λ p. (h.indices_are k).1 (p.0, p.1, before k p.0 p.1 p.2)),
      );
      numbers_are = λ n. (
        (λ is. let p = (h.numbers_are n).0 is in let below = p.2 in (p.0, p.1, omega (arith, ints, below, le))),
        (λ p. (h.numbers_are n).1 (p.0, p.1, before p.0 n p.1 p.2)),
      );
      index_limits = h.index_limits;
      number_limits = h.number_limits;
    }

pub pairs_whole : (xs : List ℤ) (D E : ℤ → Type 0) (indices numbers : List (ℤ × ℤ)) (j : ℤ) → ((k n : ℤ) → IsPair xs D E k n → k <ℤ j)
    → ArePairsBelow xs D E indices numbers j → AreAllPairs xs D E indices numbers
pairs_whole xs D E indices numbers j all h = record {
  pairs = record {
    indices_are = λ k. ((λ is. let p = (h.indices_are k).0 is in (p.0, p.1)), (λ p. (h.indices_are k).1 (p.0, p.1, all k p.0 p.1)));
    numbers_are = λ n. ((λ is. let p = (h.numbers_are n).0 is in (p.0, p.1)), (λ p. (h.numbers_are n).1 (p.0, p.1, all p.0 n p.1)));
  };
  index_limits = h.index_limits;
  number_limits = h.number_limits;
}

pub pairs_all : (xs : List ℤ) (D E : ℤ → Type 0) (indices numbers s t : List (ℤ × ℤ)) → AreAllPairs xs D E indices numbers
    → AreOneSet s indices → AreOneSet t numbers → ArePairs xs D E (λ k. IsInSet s k) (λ n. IsInSet t n)
pairs_all xs D E indices numbers s t h is_s is_t = record {
  indices_are = λ k. ((λ is. (h.pairs.indices_are k).0 ((is_s k).0 is)), (λ p. (is_s k).1 ((h.pairs.indices_are k).1 p)));
  numbers_are = λ n. ((λ is. (h.pairs.numbers_are n).0 ((is_t n).0 is)), (λ p. (is_t n).1 ((h.pairs.numbers_are n).1 p)));
}

-- ---- near pairs

-- the partners of an index are the number that stands there
pub one_number : (xs : List ℤ) (j number base : ℤ) (bits none one : ℕ) → IsElement j xs number → IsBit base bits number → ((m : ℤ) → IsBit base none m → ⊥)
    → ((m : ℤ) → IsBit base one m ↔ (IsBit base none m ⊎ (m ≡ number))) → (m : ℤ) → IsBit base one m ↔ (IsElement j xs m × IsBit base bits m)
one_number xs j number base bits none one stands has empty with m = (
  (λ is. elim ((with m).0 is) [
    | inl before ↦ absurd (empty m before)
    | inr same ↦ (subst (λ (n : ℤ). IsElement j xs n) (sym same) stands, subst (λ (n : ℤ). IsBit base bits n) (sym same) has)
  ]),
  (λ h. (with m).1 (inr (element_only j xs m number h.0 stands))),
)

pub near_are : (xs : List ℤ) (D E F G P Q : ℤ → Type 0) → ((k : ℤ) → D k ↔ F k) → ((n : ℤ) → E n ↔ G n) → AreMatching (λ k n. IsElement k xs n) D E P Q → ArePairs xs F G P Q
near_are xs D E F G P Q indices values h =
    let are = matching_as (λ k n. IsElement k xs n) D E P Q (λ k n. IsPair xs F G k n)
    (λ k n. (
      (λ p. record { stands = p.partners; index = (indices k).0 p.first; number = (values n).0 p.second }),
      (λ p. record { partners = p.stands; first = (indices k).1 p.index; second = (values n).1 p.number }),
    )) h in
    record { indices_are = are.0; numbers_are = are.1 }

-- ---- an index that is a number

-- from it, or 1, up to it, or the end of the list, there is no other
pub only_index : (m k count first end : ℤ) → first ≡ int_max m (pos 1) → end ≡ int_min m count +ℤ pos 1 → first ≤ℤ k → k <ℤ end → k ≡ m
only_index m k count first end low high from below = omega (arith, ints, clamps, low, high, from, below)

-- ---- range by range

-- what lies before the range at a place lies in the ranges before it
pub in_earlier : (i : ℕ) (rs : List (ℤ × ℤ)) (x : ℤ) (d : ℤ × ℤ) → AreRanges rs → i < length rs → IsInSet rs x → x <ℤ (get_or rs i d).0 → IsInSet (take i rs) x
in_earlier i [] x d h within is below = absurd is
in_earlier zero (r ∷ rs) x d h within (inl is) below = let low = is.0 in absurd (omega (arith, ints, low, below))
in_earlier zero (r ∷ rs) x d h within (inr is) below =
    let above = above_gap r rs x h is in let proper = AreRanges-head r rs h in absurd (omega (arith, ints, above, proper, below))
in_earlier (suc i) (r ∷ rs) x d h within (inl is) below = inl is
in_earlier (suc i) (r ∷ rs) x d h within (inr is) below = inr (in_earlier i rs x d (AreRanges-tail r rs h) (omega (arith, within)) is below)

-- and with it in the first ranges or in it
in_next : (i : ℕ) (rs : List (ℤ × ℤ)) (x : ℤ) (d : ℤ × ℤ) → i < length rs → IsInSet (take (suc i) rs) x → IsInSet (take i rs) x ⊎ IsInRange (get_or rs i d) x
in_next i [] x d within is = absurd (omega (arith, within))
in_next zero (r ∷ rs) x d within (inl is) = inr is
in_next zero (r ∷ rs) x d within (inr is) = absurd is
in_next (suc i) (r ∷ rs) x d within (inl is) = inl (inl is)
in_next (suc i) (r ∷ rs) x d within (inr is) = elim (in_next i rs x d (omega (arith, within)) is) [ inl h ↦ inl (inr h) | inr h ↦ inr h ]

pub in_one_more : (i : ℕ) (rs : List (ℤ × ℤ)) (x : ℤ) (d : ℤ × ℤ) → i < length rs → IsInSet (take (i + 1) rs) x → IsInSet (take i rs) x ⊎ IsInRange (get_or rs i d) x
in_one_more i rs x d within is = in_next i rs x d within (let e : i + 1 ≡ suc i = omega arith in subst (λ (n : ℕ). IsInSet (take n rs) x) e is)

pub in_at : (i : ℕ) (rs : List (ℤ × ℤ)) (x : ℤ) (d : ℤ × ℤ) → i < length rs → IsInRange (get_or rs i d) x → IsInSet rs x
in_at i [] x d within is = absurd (omega (arith, within))
in_at zero (r ∷ rs) x d within is = inl is
in_at (suc i) (r ∷ rs) x d within is = inr (in_at i rs x d (omega (arith, within)) is)

pub high_limits : (i : ℕ) (rs : List (ℤ × ℤ)) (d : ℤ × ℤ) → IsDomain rs → i < length rs → IsWithinLimits (get_or rs i d).1
high_limits i rs d domain within =
    limits_of rs (get_or rs i d).1 domain (in_at i rs (get_or rs i d).1 d within (proper rs i d domain.0 within, omega (arith, ints)))

-- All pairs of the first ranges of the index, where only indices from `first` up to `end` are looked at: those below `reached`.
pub record AreReached (xs : List ℤ) (rs : List (ℤ × ℤ)) (E : ℤ → Type 0) (indices numbers : List (ℤ × ℤ)) (i : ℕ) (first end reached : ℤ) : Type 0 where
  pub from : first ≤ℤ reached
  pub pairs : ArePairsBelow xs (λ k. IsInSet rs k) E indices numbers reached
  pub passed : (k : ℤ) → IsInSet (take i rs) k → first ≤ℤ k → k <ℤ end → k <ℤ reached

pub reached_start : (xs : List ℤ) (rs : List (ℤ × ℤ)) (E : ℤ → Type 0) (first end : ℤ) → ((k n : ℤ) → IsPair xs (λ j. IsInSet rs j) E k n → first ≤ℤ k)
    → AreReached xs rs E [] [] 0 first end first
reached_start xs rs E first end low = record {
  from = omega (arith, ints);
  pairs = pairs_none xs (λ k. IsInSet rs k) E first low;
  passed = λ k is. absurd is;
}

-- before one more range is added, of which something is looked at
pub reached_low : (xs : List ℤ) (rs : List (ℤ × ℤ)) (E : ℤ → Type 0) (indices numbers : List (ℤ × ℤ)) (i : ℕ) (first end reached low from until : ℤ) (d : ℤ × ℤ) → AreRanges rs → i < length rs
    → low ≡ (get_or rs i d).0 → from ≡ int_max low reached → from <ℤ until → until ≤ℤ end
    → AreReached xs rs E indices numbers i first end reached → ArePairsBelow xs (λ k. IsInSet rs k) E indices numbers from
reached_low xs rs E indices numbers i first end reached low from until d h within is_low is_from some most a =
    let start = a.from in
    pairs_skipped xs (λ k. IsInSet rs k) E indices numbers reached from (omega (arith, ints, clamps, is_from))
    (λ k n pair after before. by_lt_z k low
    (λ below. let passed = a.passed k (in_earlier i rs k d h within pair.index (subst (λ (z : ℤ). k <ℤ z) is_low below)) (omega (arith, ints, start, after)) (omega (arith, ints, before, some, most)) in
    omega (arith, ints, passed, after))
    (λ above. omega (arith, ints, clamps, is_from, above, after, before)))
    a.pairs

-- and once it is added
pub reached_more : (xs : List ℤ) (rs : List (ℤ × ℤ)) (E : ℤ → Type 0) (indices numbers more found : List (ℤ × ℤ)) (i : ℕ) (first end reached low high from until after : ℤ) (d : ℤ × ℤ) → i < length rs
    → high ≡ (get_or rs i d).1 → from ≡ int_max low reached → until ≡ int_min end (high +ℤ pos 1) → from <ℤ until → after ≡ int_max from until
    → AreReached xs rs E indices numbers i first end reached → ArePairsBelow xs (λ k. IsInSet rs k) E more found after
    → AreReached xs rs E more found (i + 1) first end until
reached_more xs rs E indices numbers more found i first end reached low high from until after d within is_high is_from is_until some is_after a pairs =
    let start = a.from in record {
      from = omega (arith, ints, clamps, start, is_from, some);
      pairs = subst (λ (z : ℤ). ArePairsBelow xs (λ k. IsInSet rs k) E more found z) (omega (arith, ints, clamps, is_after, some)) pairs;
      passed = λ k is at before. elim (in_one_more i rs k d within is) [
        | inl earlier ↦ let passed = a.passed k earlier at before in omega (arith, ints, clamps, passed, is_from, some)
        | inr here ↦ let top = here.1 in omega (arith, ints, clamps, top, is_high, is_until, before)
      ];
    }

-- one of which nothing is looked at
pub reached_passed : (xs : List ℤ) (rs : List (ℤ × ℤ)) (E : ℤ → Type 0) (indices numbers : List (ℤ × ℤ)) (i : ℕ) (first end reached low high from until : ℤ) (d : ℤ × ℤ) → i < length rs
    → low ≡ (get_or rs i d).0 → high ≡ (get_or rs i d).1 → from ≡ int_max low reached → until ≡ int_min end (high +ℤ pos 1) → until ≤ℤ from
    → AreReached xs rs E indices numbers i first end reached → AreReached xs rs E indices numbers (i + 1) first end reached
reached_passed xs rs E indices numbers i first end reached low high from until d within is_low is_high is_from is_until none a = record {
  from = a.from;
  pairs = a.pairs;
  passed = λ k is at before. elim (in_one_more i rs k d within is) [
    | inl earlier ↦ a.passed k earlier at before
    | inr here ↦ let bottom = here.0 in let top = here.1 in omega (arith, ints, clamps, bottom, top, is_low, is_high, is_from, is_until, none, before)
  ];
}

pub reached_all : (xs : List ℤ) (rs : List (ℤ × ℤ)) (E : ℤ → Type 0) (indices numbers : List (ℤ × ℤ)) (i : ℕ) (first end reached : ℤ) → length rs ≤ i
    → ((k n : ℤ) → IsPair xs (λ j. IsInSet rs j) E k n → first ≤ℤ k) → ((k n : ℤ) → IsPair xs (λ j. IsInSet rs j) E k n → k <ℤ end)
    → AreReached xs rs E indices numbers i first end reached → AreAllPairs xs (λ k. IsInSet rs k) E indices numbers
reached_all xs rs E indices numbers i first end reached all low high a =
    pairs_whole xs (λ k. IsInSet rs k) E indices numbers reached
    (λ k n pair. a.passed k (subst (λ (s : List (ℤ × ℤ)). IsInSet s k) (sym (take_all i rs all)) pair.index) (low k n pair) (high k n pair))
    a.pairs

-- ---- windows of what is left

-- the ones of a word that stand for numbers from a base on
pub seen_from : (P : ℤ → Type 0) (base : ℤ) (bits : ℕ) → AreOnes bits (λ j. P (base +ℤ pos j)) → (x : ℤ) → base ≤ℤ x → x ≤ℤ (base +ℤ pos 63) → IsBit base bits x ↔ P x
seen_from P base bits ones x low high =
    let i = nat_abs (x -ℤ base) in
    let at : x ≡ base +ℤ pos i = omega (arith, ints) in
    let below : i < 64 = omega (arith, ints) in (
      λ bit. subst P (sym bit.2) ((ones bit.0 bit.1).0 bit.3),
      λ has. (i, below, at, (ones i below).1 (subst P at has)),
    )
