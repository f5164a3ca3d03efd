-- The halves of a set: what is in them, and that they are rising ranges.
use Rattle.std.proofs.Common.{◌≡◌, ℤ, pos, ◌+ℤ◌, ◌≤ℤ◌, ◌<ℤ◌, inl, inr, ◌⊎◌, List, [], ◌∷◌, ◌++◌, refl, sym, subst, arith, true, false}
use Rattle.std.specs.Prelude.{int_le}
use Rattle.std.specs.Int.{int_min, int_max}
use Rattle.std.proofs.lemmas.Int.{ints, by_lt_z}
use Rattle.fz_sets.specs.Sets.{AreRanges, IsInSet, interval}
use Rattle.fz_dom.proofs.Ranges.{AreRanges-head, AreRanges-tail, above_gap}
use Rattle.fz_refutes.specs.Boxes.{up_to, above}

-- an interval is a range or nothing
pub whole : (l u : ℤ) → l ≤ℤ u → interval l u ≡ (l, u) ∷ []
whole l u h = let t : int_le l u ≡ true = grind (arith, ints) in rw t refl

pub none : (l u : ℤ) → u <ℤ l → interval l u ≡ []
none l u h = let t : int_le l u ≡ false = grind (arith, ints) in rw t refl

-- a range before ranges that lie above it
before : (l u : ℤ) (rs : List (ℤ × ℤ)) → l ≤ℤ u → AreRanges rs → ((x : ℤ) → IsInSet rs x → (u +ℤ pos 1) <ℤ x) → AreRanges ((l, u) ∷ rs)
before l u [] h are gap = h
before l u (s ∷ rs) h are gap = (h, gap s.0 (inl (omega (arith, ints), AreRanges-head s rs are)), are)

pub joined : (l u : ℤ) (rs : List (ℤ × ℤ)) → AreRanges rs → ((x : ℤ) → IsInSet rs x → (u +ℤ pos 1) <ℤ x) → AreRanges (interval l u ++ rs)
joined l u rs are gap =
    by_lt_z u l
    (λ lt. subst (λ (is : List (ℤ × ℤ)). AreRanges (is ++ rs)) (sym (none l u lt)) are)
    (λ le. subst (λ (is : List (ℤ × ℤ)). AreRanges (is ++ rs)) (sym (whole l u le)) (before l u rs le are gap))

-- what is in an interval and in ranges after it
pub in_joined : (l u : ℤ) (rs : List (ℤ × ℤ)) (x : ℤ) → IsInSet (interval l u ++ rs) x → ((l ≤ℤ x) × (x ≤ℤ u)) ⊎ IsInSet rs x
in_joined l u rs x i =
    by_lt_z u l
    (λ lt. inr (subst (λ (is : List (ℤ × ℤ)). IsInSet (is ++ rs) x) (none l u lt) i))
    (λ le. elim (subst (λ (is : List (ℤ × ℤ)). IsInSet (is ++ rs) x) (whole l u le) i) [ inl j ↦ inl j | inr j ↦ inr j ])

pub joined_first : (l u : ℤ) (rs : List (ℤ × ℤ)) (x : ℤ) → l ≤ℤ x → x ≤ℤ u → IsInSet (interval l u ++ rs) x
joined_first l u rs x a b = subst (λ (is : List (ℤ × ℤ)). IsInSet (is ++ rs) x) (sym (whole l u (omega (arith, ints, a, b)))) (inl (a, b))

pub joined_later : (l u : ℤ) (rs : List (ℤ × ℤ)) (x : ℤ) → IsInSet rs x → IsInSet (interval l u ++ rs) x
joined_later l u rs x i =
    by_lt_z u l
    (λ lt. subst (λ (is : List (ℤ × ℤ)). IsInSet (is ++ rs) x) (sym (none l u lt)) i)
    (λ le. subst (λ (is : List (ℤ × ℤ)). IsInSet (is ++ rs) x) (sym (whole l u le)) (inr i))

min_most : (a n x : ℤ) → x ≤ℤ int_min a n → (x ≤ℤ a) × (x ≤ℤ n)
min_most a n x h = grind (arith, ints)

most_min : (a n x : ℤ) → x ≤ℤ a → x ≤ℤ n → x ≤ℤ int_min a n
most_min a n x h k = grind (arith, ints)

max_least : (a n x : ℤ) → int_max a n ≤ℤ x → (a ≤ℤ x) × (n ≤ℤ x)
max_least a n x h = grind (arith, ints)

least_max : (a n x : ℤ) → a ≤ℤ x → n ≤ℤ x → int_max a n ≤ℤ x
least_max a n x h k = grind (arith, ints)

-- ---- what is in the halves

pub of_up_to : (n : ℤ) (d : List (ℤ × ℤ)) (x : ℤ) → IsInSet (up_to n d) x → IsInSet d x × (x ≤ℤ n)
of_up_to n [] x i = absurd i
of_up_to n (r ∷ rs) x i = elim (in_joined r.0 (int_min r.1 n) (up_to n rs) x i) [
  | inl j ↦ let m = min_most r.1 n x j.1 in (inl (j.0, m.0), m.1)
  | inr j ↦ let p = of_up_to n rs x j in (inr p.0, p.1)
]

pub up_to_of : (n : ℤ) (d : List (ℤ × ℤ)) (x : ℤ) → IsInSet d x → x ≤ℤ n → IsInSet (up_to n d) x
up_to_of n [] x i le = absurd i
up_to_of n (r ∷ rs) x (inl i) le = joined_first r.0 (int_min r.1 n) (up_to n rs) x i.0 (most_min r.1 n x i.1 le)
up_to_of n (r ∷ rs) x (inr i) le = joined_later r.0 (int_min r.1 n) (up_to n rs) x (up_to_of n rs x i le)

pub of_above : (n : ℤ) (d : List (ℤ × ℤ)) (x : ℤ) → IsInSet (above n d) x → IsInSet d x × (n <ℤ x)
of_above n [] x i = absurd i
of_above n (r ∷ rs) x i = elim (in_joined (int_max r.0 (n +ℤ pos 1)) r.1 (above n rs) x i) [
  | inl j ↦ let m = max_least r.0 (n +ℤ pos 1) x j.0 in (inl (m.0, j.1), let k = m.1 in omega (arith, ints, k))
  | inr j ↦ let p = of_above n rs x j in (inr p.0, p.1)
]

pub above_of : (n : ℤ) (d : List (ℤ × ℤ)) (x : ℤ) → IsInSet d x → n <ℤ x → IsInSet (above n d) x
above_of n [] x i lt = absurd i
above_of n (r ∷ rs) x (inl i) lt = joined_first (int_max r.0 (n +ℤ pos 1)) r.1 (above n rs) x (least_max r.0 (n +ℤ pos 1) x i.0 (omega (arith, ints, lt))) i.1
above_of n (r ∷ rs) x (inr i) lt = joined_later (int_max r.0 (n +ℤ pos 1)) r.1 (above n rs) x (above_of n rs x i lt)

-- ---- they are rising ranges

pub up_to_ranges : (n : ℤ) (d : List (ℤ × ℤ)) → AreRanges d → AreRanges (up_to n d)
up_to_ranges n [] are = tt
up_to_ranges n (r ∷ rs) are = joined r.0 (int_min r.1 n) (up_to n rs) (up_to_ranges n rs (AreRanges-tail r rs are))
    (λ x i. let g = above_gap r rs x are (of_up_to n rs x i).0 in let m = (min_most r.1 n (int_min r.1 n) (omega (arith, ints))).0 in omega (arith, ints, g, m))

pub above_ranges : (n : ℤ) (d : List (ℤ × ℤ)) → AreRanges d → AreRanges (above n d)
above_ranges n [] are = tt
above_ranges n (r ∷ rs) are = joined (int_max r.0 (n +ℤ pos 1)) r.1 (above n rs) (above_ranges n rs (AreRanges-tail r rs are))
    (λ x i. above_gap r rs x are (of_above n rs x i).0)
