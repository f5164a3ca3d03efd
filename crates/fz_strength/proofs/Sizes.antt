-- The sizes of the numbers of a set lie between its least and its greatest size, and each of these is one of them.
use Rattle.std.proofs.Common.{◌≡◌, List, [], ◌∷◌, ◌<◌, length, map, refl, sym, ◌∙◌, arith, inl, inr}
use Rattle.std.specs.Prelude.{ℤ, pos, negsuc, neg_ℤ, ◌≤ℤ◌, ◌⊎◌}
use Rattle.std.specs.Int.{int_min, int_max}
use Rattle.std.specs.List.{fold}
use Rattle.std.proofs.lemmas.Int.{ints, clamps, by_lt_z}
use Rattle.fz_sets.specs.Sets.{IsInSet, IsInRange, AreRanges}
use Rattle.fz_dom.specs.Shape.{least, greatest}
use Rattle.fz_dom.proofs.Ranges.{AreRanges-head, AreRanges-tail, least_member, greatest_member}
use Rattle.fz_strength.specs.Laws.{SizesOfSets}
use Rattle.fz_spec.specs.Truth.{size_of}
use Rattle.fz_strength.specs.Operations.{size_between, least_size, greatest_size}

-- ---- the least

size_above : (r : ℤ × ℤ) (x : ℤ) → IsInRange r x → size_between r ≤ℤ size_of x
size_above r (pos n) is = let low = is.0 in let high = is.1 in omega (arith, ints, clamps, low, high)
size_above r (negsuc n) is = let low = is.0 in let high = is.1 in omega (arith, ints, clamps, low, high)

first_above : (m : ℤ) (rs : List (ℤ × ℤ)) → fold int_min m (map size_between rs) ≤ℤ m
first_above m [] = omega (arith, ints)
first_above m (r ∷ rs) = let h = first_above (int_min m (size_between r)) rs in omega (arith, ints, clamps, h)

sizes_above : (m : ℤ) (rs : List (ℤ × ℤ)) (x : ℤ) → IsInSet rs x → fold int_min m (map size_between rs) ≤ℤ size_of x
sizes_above m [] x is = absurd is
sizes_above m (r ∷ rs) x is = elim is [
  | inl here ↦ (let h = first_above (int_min m (size_between r)) rs in let s = size_above r x here in omega (arith, ints, clamps, h, s))
  | inr there ↦ sizes_above (int_min m (size_between r)) rs x there
]

-- the number of a range that lies nearest to 0
nearest : (low high : ℤ) → low ≤ℤ high → (x : ℤ) × IsInRange (low, high) x × (size_of x ≡ size_between (low, high))
nearest (pos n) high rises = (pos n, (omega (arith, ints), rises), omega (arith, ints, clamps, rises))
nearest (negsuc n) (negsuc m) rises = (negsuc m, (rises, omega (arith, ints)), omega (arith, ints, clamps, rises))
nearest (negsuc n) (pos m) rises = (pos 0, (omega (arith, ints), omega (arith, ints)), omega (arith, ints, clamps))

-- in a set, or before it
abbrev IsReached : ℤ → List (ℤ × ℤ) → ℤ → Type 0
IsReached m rs s = (s ≡ m) ⊎ ((x : ℤ) × IsInSet rs x × (size_of x ≡ s))

-- the lesser of two is one of them
lesser : (m n s : ℤ) → s ≡ int_min m n → (s ≡ m) ⊎ (s ≡ n)
lesser m n s is = by_lt_z m n (λ below. inl (omega (arith, ints, clamps, below, is))) (λ above. inr (omega (arith, ints, clamps, above, is)))

size_reached : (m : ℤ) (rs : List (ℤ × ℤ)) → AreRanges rs → IsReached m rs (fold int_min m (map size_between rs))
size_reached m [] are = inl refl
size_reached m (r ∷ rs) are =
    let s = fold int_min (int_min m (size_between r)) (map size_between rs) in
    elim (size_reached (int_min m (size_between r)) rs (AreRanges-tail r rs are)) [
      | inl first ↦ elim (lesser m (size_between r) s first) [
        | inl before ↦ inl before
        | inr here ↦ (let x = nearest r.0 r.1 (AreRanges-head r rs are) in inr (x.0, inl x.1, x.2 ∙ sym here))
      ]
      | inr later ↦ inr (later.0, inr later.1, later.2)
    ]

least_reached : (d : List (ℤ × ℤ)) → 0 < length d → AreRanges d → (x : ℤ) × IsInSet d x × (size_of x ≡ least_size d)
least_reached [] some are = absurd (omega (arith, some))
least_reached (r ∷ rs) some are = elim (size_reached (size_between r) rs (AreRanges-tail r rs are)) [
  | inl first ↦ (let x = nearest r.0 r.1 (AreRanges-head r rs are) in (x.0, inl x.1, x.2 ∙ sym first))
  | inr later ↦ (later.0, inr later.1, later.2)
]

pub least_below : (d : List (ℤ × ℤ)) (x : ℤ) → IsInSet d x → least_size d ≤ℤ size_of x
least_below [] x is = absurd is
least_below (r ∷ rs) x is = elim is [
  | inl here ↦ (let h = first_above (size_between r) rs in let s = size_above r x here in omega (arith, ints, h, s))
  | inr there ↦ sizes_above (size_between r) rs x there
]

-- ---- the greatest

size_below : (low high x : ℤ) → low ≤ℤ x → x ≤ℤ high → size_of x ≤ℤ int_max high (neg_ℤ low)
size_below low high (pos n) above below = omega (arith, ints, clamps, above, below)
size_below low high (negsuc n) above below = omega (arith, ints, clamps, above, below)

farther : (low high : ℤ) → low ≤ℤ high → (size_of high ≡ int_max high (neg_ℤ low)) ⊎ (size_of low ≡ int_max high (neg_ℤ low))
farther (pos n) (pos m) rises = inl (omega (arith, ints, clamps, rises))
farther (pos n) (negsuc m) rises = absurd (omega (arith, ints, rises))
farther (negsuc n) (negsuc m) rises = inr (omega (arith, ints, clamps, rises))
farther (negsuc n) (pos m) rises = by_lt_z (neg_ℤ (negsuc n)) (pos m) (λ below. inl (omega (arith, ints, clamps, below))) (λ above. inr (omega (arith, ints, clamps, above)))

pub greatest_above : (d : List (ℤ × ℤ)) (x : ℤ) → 0 < length d → AreRanges d → IsInSet d x → size_of x ≤ℤ greatest_size d
greatest_above d x some are is = size_below (least d) (greatest d) x ((least_member d some are).1 x is) ((greatest_member d some are).1 x is)

greatest_reached : (d : List (ℤ × ℤ)) → 0 < length d → AreRanges d → (x : ℤ) × IsInSet d x × (size_of x ≡ greatest_size d)
greatest_reached d some are =
    let low = least_member d some are in
    let high = greatest_member d some are in
    elim (farther (least d) (greatest d) (low.1 (greatest d) high.0)) [
      | inl is ↦ (greatest d, high.0, is)
      | inr is ↦ (least d, low.0, is)
    ]

pub sizes_of_sets : SizesOfSets
sizes_of_sets d domain some = record {
  least = least_reached d some domain.0;
  greatest = greatest_reached d some domain.0;
  between = λ x is. (least_below d x is, greatest_above d x some domain.0 is);
}
