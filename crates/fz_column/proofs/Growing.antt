-- Ranges of numbers that grow by their end.
use Rattle.std.proofs.Common.{◌≡◌, ℕ, zero, suc, ◌-◌, ◌≤◌, List, [], ◌∷◌, ◌++◌, ◌⊎◌, inl, inr, refl, sym, subst, arith, length, drop, slice_set, pos, ◌≤ℤ◌, ◌<ℤ◌, ◌-ℤ◌}
use Rattle.std.specs.Prelude.{ℤ, ◌↔◌, slice_get, Some, nat_eq, IsTrue}
use Rattle.std.specs.List.{AllByRecursion}
use Rattle.std.proofs.lemmas.Bool.Decides.{nat_tests}
use Rattle.std.proofs.lemmas.Int.{ints, by_lt_z}
use Rattle.fz_sets.specs.Sets.{IsInSet, IsWithinLimits, AreWithinLimits}
use Rattle.fz_sets.proofs.Lists.{all_at}
use Rattle.fz_prop.proofs.Grown.{in_more, in_before, in_last}
use Rattle.fz_column.specs.Spans.{IsFilled, EndsAt}

-- ---- a number more

pub more_filled : (rs : List (ℤ × ℤ)) (n : ℤ) → AllByRecursion IsFilled rs → AllByRecursion IsFilled (rs ++ (n, n) ∷ [])
more_filled [] n all = (omega (arith, ints), tt)
more_filled (r ∷ rs) n all = (all.0, more_filled rs n all.1)

pub more_in : (rs : List (ℤ × ℤ)) (x n : ℤ) → IsInSet (rs ++ (x, x) ∷ []) n ↔ (IsInSet rs n ⊎ (n ≡ x))
more_in rs x n = (in_more rs x n, λ h. elim h [ inl old ↦ in_before rs x n old | inr e ↦ in_last rs x n e ])

-- a range grows by its end
pub grown_filled : (rs : List (ℤ × ℤ)) (k : ℕ) (r : ℤ × ℤ) (x : ℤ) → slice_get rs k ≡ Some r → r.1 <ℤ x → AllByRecursion IsFilled rs → AllByRecursion IsFilled (slice_set rs k (r.0, x))
grown_filled [] k r x at above all = absurd (cc (at))
grown_filled (s ∷ rs) zero r x at above all =
    let is : s ≡ r = cc (at) in
    let filled : r.0 ≤ℤ r.1 = subst IsFilled is all.0 in
    (omega (arith, ints, filled, above), all.1)
grown_filled (s ∷ rs) (suc k) r x at above all = (all.0, grown_filled rs k r x at above all.1)

pub grown_in : (rs : List (ℤ × ℤ)) (k : ℕ) (r : ℤ × ℤ) (x n : ℤ) → slice_get rs k ≡ Some r → r.1 <ℤ x → (x -ℤ pos 1) ≡ r.1 → AllByRecursion IsFilled rs
    → IsInSet (slice_set rs k (r.0, x)) n ↔ (IsInSet rs n ⊎ (n ≡ x))
grown_in [] k r x n at above next all = absurd (cc (at))
grown_in (s ∷ rs) zero r x n at above next all =
    let is : s ≡ r = cc (at) in
    let filled : r.0 ≤ℤ r.1 = subst IsFilled is all.0 in
    let InFirst : ℤ × ℤ → Type 0 = λ (q : ℤ × ℤ). (q.0 ≤ℤ n) × (n ≤ℤ q.1) in (
      (λ h. elim h [
        | inl w ↦ let b = w.1 in by_lt_z n x (λ lt. let up : n ≤ℤ r.1 = omega (arith, ints, lt, next) in inl (inl (subst InFirst (sym is) (w.0, up)))) (λ le. inr (omega (arith, ints, le, b)))
        | inr later ↦ inl (inr later)
      ]),
      (λ h. elim h [
        | inl old ↦ elim old [ inl here ↦ let w = subst InFirst is here in let b = w.1 in inl (w.0, omega (arith, ints, b, above)) | inr later ↦ inr later ]
        | inr e ↦ inl (omega (arith, ints, e, filled, above), omega (arith, ints, e))
      ]),
    )
grown_in (s ∷ rs) (suc k) r x n at above next all =
    let more = grown_in rs k r x n at above next all.1 in (
      (λ h. elim h [
        | inl here ↦ inl (inl here)
        | inr later ↦ elim (more.0 later) [ inl old ↦ inl (inr old) | inr e ↦ inr e ]
      ]),
      (λ h. elim h [
        | inl old ↦ elim old [ inl here ↦ inl here | inr later ↦ inr (more.1 (inl later)) ]
        | inr e ↦ inr (more.1 (inr e))
      ]),
    )

-- ---- the end of the last range

get_in : (rs : List (ℤ × ℤ)) (k : ℕ) (r : ℤ × ℤ) (n : ℤ) → slice_get rs k ≡ Some r → r.0 ≤ℤ n → n ≤ℤ r.1 → IsInSet rs n
get_in [] k r n at low high = absurd (cc (at))
get_in (s ∷ rs) zero r n at low high = let e : s ≡ r = cc (at) in inl (subst (λ (q : ℤ × ℤ). q.0 ≤ℤ n) (sym e) low, subst (λ (q : ℤ × ℤ). n ≤ℤ q.1) (sym e) high)
get_in (s ∷ rs) (suc k) r n at low high = inr (get_in rs k r n at low high)

pub end_in : (rs : List (ℤ × ℤ)) (n : ℤ) → AllByRecursion IsFilled rs → EndsAt rs n → IsInSet rs n
end_in rs n all end =
    let filled = all_at IsFilled rs (length rs - 1) end.0 all end.1 in
    let is = end.2 in
    get_in rs (length rs - 1) end.0 n end.1 (omega (arith, ints, filled, is)) (omega (arith, ints, is))

-- ---- the ranges of a domain

pub dropped_all : {X : Type 0} (xs : List X) (k : ℕ) → k ≤ length xs → IsTrue (nat_eq k (length xs)) ↔ (drop k xs ≡ [])
dropped_all [] zero inside = ((λ e. refl), (λ e. grind (arith, nat_tests)))
dropped_all [] (suc k) inside = absurd (omega (arith, inside))
dropped_all (x ∷ xs) zero inside = ((λ e. absurd (grind (arith, nat_tests))), (λ e. absurd (cc (e))))
dropped_all (x ∷ xs) (suc k) inside =
    let rest = dropped_all xs k (omega (arith, inside)) in
    ((λ e. rest.0 (grind (arith, nat_tests))), (λ e. let same = rest.1 e in grind (arith, nat_tests)))

-- ---- limits

-- ranges are within the limits where their numbers are
pub limits_by_numbers : (rs : List (ℤ × ℤ)) → AllByRecursion IsFilled rs → ((n : ℤ) → IsInSet rs n → IsWithinLimits n) → AreWithinLimits rs
limits_by_numbers [] all within = tt
limits_by_numbers (r ∷ rs) all within =
    let filled = all.0 in (
      within r.0 (inl (omega (arith, ints), filled)),
      within r.1 (inl (filled, omega (arith, ints))),
      limits_by_numbers rs all.1 (λ n is. within n (inr is)),
    )
