-- The ranges of numbers are rising, and hold those numbers and no other.
use Rattle.std.proofs.Common.{◌≡◌, ℤ, pos, List, [], ◌∷◌, Bool, true, false, cond, refl, inl, inr, arith}
use Rattle.std.specs.Prelude.{◌≤ℤ◌, ◌<ℤ◌, ◌+ℤ◌, ◌-ℤ◌, ◌↔◌, ◌⊎◌, int_lt, int_le}
use Rattle.std.specs.Bool.{Decides}
use Rattle.std.specs.Ordering.{int_eq}
use Rattle.std.proofs.lemmas.Int.{ints}
use Rattle.std.proofs.lemmas.Bool.Decides.{Decides-int_eq, not_from_Decides}
use Rattle.fz_sets.specs.Sets.{IsInRange, IsInSet, AreRanges, AreOneSet}
use Rattle.fz_language.specs.Numerals.{behind, with_number, ranges_of}
use Rattle.fz_language.specs.SetLaws.{points_of}
use Rattle.fz_sets.proofs.Numbers.{Decides-int_lt, above_of_not, most_of_not}

pub Decides-int_le : (a b : ℤ) → Decides (int_le a b) (a ≤ℤ b)
Decides-int_le a b = (λ t. grind (arith, ints), λ le. grind (arith, ints))

-- rising ranges, all above a number
abbrev Above : ℤ → List (ℤ × ℤ) → Type 0
Above b [] = Unit {0}
Above b (r ∷ rs) = (b <ℤ r.0) × (r.0 ≤ℤ r.1) × Above (r.1 +ℤ pos 1) rs

lower : (b c : ℤ) (rs : List (ℤ × ℤ)) → c ≤ℤ b → Above b rs → Above c rs
lower b c [] h a = tt
lower b c (r ∷ rs) h a = (let l = a.0 in omega (arith, ints, h, l), a.1, a.2)

rising : (b : ℤ) (rs : List (ℤ × ℤ)) → Above b rs → AreRanges rs
rising b [] a = tt
rising b (r ∷ []) a = a.1
rising b (r ∷ s ∷ rs) a = (a.1, a.2.0, rising (r.1 +ℤ pos 1) (s ∷ rs) a.2)

-- ---- joining a range to those after it

apart : (x y : ℤ) → x <ℤ y → (y ≡ x +ℤ pos 1 → ⊥) → (x +ℤ pos 1) <ℤ y
apart x y h n = grind (arith, ints)

joined_above : (b : ℤ) (r : ℤ × ℤ) (rs : List (ℤ × ℤ)) → b <ℤ r.0 → r.0 ≤ℤ r.1 → Above r.1 rs → Above b (behind r rs)
joined_above b r [] h k a = (h, k, tt)
joined_above b r (s ∷ rs) h k a = go (int_eq s.0 (r.1 +ℤ pos 1)) (Decides-int_eq s.0 (r.1 +ℤ pos 1))
  where
    go : (t : Bool) → Decides t (s.0 ≡ r.1 +ℤ pos 1) → Above b (cond t ((r.0, s.1) ∷ rs) (r ∷ s ∷ rs))
    go true d = (h, let l = a.0 in let m = a.1 in omega (arith, ints, k, l, m), a.2)
    go false d = (h, k, (apart r.1 s.0 a.0 (not_from_Decides false d refl), a.1, a.2))

split : (y m : ℤ) → (y ≤ℤ m) ⊎ ((m +ℤ pos 1) ≤ℤ y)
split y m = go (int_le y m) (Decides-int_le y m)
  where
    go : (t : Bool) → Decides t (y ≤ℤ m) → (y ≤ℤ m) ⊎ ((m +ℤ pos 1) ≤ℤ y)
    go true d = inl (d.0 refl)
    go false d = inr (let n = not_from_Decides false d refl in grind (arith, ints))

parted : (l m n u y : ℤ) (rs : List (ℤ × ℤ)) → n ≡ m +ℤ pos 1 → IsInRange (l, u) y → IsInRange (l, m) y ⊎ (IsInRange (n, u) y ⊎ IsInSet rs y)
parted l m n u y rs e i = elim (split y m) [ inl below ↦ inl (i.0, below) | inr above ↦ inr (inl (let a = above in omega (arith, ints, e, a), i.1)) ]

joined_members : (r : ℤ × ℤ) (rs : List (ℤ × ℤ)) (y : ℤ) → r.0 ≤ℤ r.1 → Above r.1 rs → IsInSet (behind r rs) y ↔ (IsInRange r y ⊎ IsInSet rs y)
joined_members r [] y k a = (λ h. h, λ h. h)
joined_members r (s ∷ rs) y k a = go (int_eq s.0 (r.1 +ℤ pos 1)) (Decides-int_eq s.0 (r.1 +ℤ pos 1))
  where
    go : (t : Bool) → Decides t (s.0 ≡ r.1 +ℤ pos 1) → IsInSet (cond t ((r.0, s.1) ∷ rs) (r ∷ s ∷ rs)) y ↔ (IsInRange r y ⊎ IsInSet (s ∷ rs) y)
    go false d = (λ h. h, λ h. h)
    go true d = let e = d.0 refl in (
      λ h. elim h [ inl i ↦ parted r.0 r.1 s.0 s.1 y rs e i | inr m ↦ inr (inr m) ],
      λ h. elim h [
        | inl i ↦ inl (i.0, let l = a.1 in let u = i.1 in omega (arith, ints, e, l, u))
        | inr m ↦ elim m [ inl j ↦ inl (let l = j.0 in omega (arith, ints, e, l, k), j.1) | inr n ↦ inr n ]
      ],
    )

-- ---- one number more

more_above : (b x : ℤ) (rs : List (ℤ × ℤ)) → b <ℤ x → Above b rs → Above b (with_number x rs)
more_above b x [] h a = (h, omega (arith, ints), tt)
more_above b x (r ∷ rs) h a = go (λ over. more_above r.1 x rs over (lower (r.1 +ℤ pos 1) r.1 rs (omega (arith, ints)) a.2)) (int_lt x r.0) (Decides-int_lt x r.0) (int_le x r.1) (Decides-int_le x r.1)
  where
    go : (r.1 <ℤ x → Above r.1 (with_number x rs)) → (t : Bool) → Decides t (x <ℤ r.0) → (u : Bool) → Decides u (x ≤ℤ r.1) → Above b (cond t (behind (x, x) (r ∷ rs)) (cond u (r ∷ rs) (behind r (with_number x rs))))
    go later true d u k = joined_above b (x, x) (r ∷ rs) h (omega (arith, ints)) (d.0 refl, a.1, a.2)
    go later false d true k = a
    go later false d false k = joined_above b r (with_number x rs) a.0 a.1 (later (above_of_not x r.1 (not_from_Decides false k refl)))

more_members : (b x : ℤ) (rs : List (ℤ × ℤ)) (y : ℤ) → Above b rs → IsInSet (with_number x rs) y ↔ (IsInRange (x, x) y ⊎ IsInSet rs y)
more_members b x [] y a = (λ h. h, λ h. h)
more_members b x (r ∷ rs) y a = let above = lower (r.1 +ℤ pos 1) r.1 rs (omega (arith, ints)) a.2 in go above (more_members r.1 x rs y above) (int_lt x r.0) (Decides-int_lt x r.0) (int_le x r.1) (Decides-int_le x r.1)
  where
    go : Above r.1 rs → (IsInSet (with_number x rs) y ↔ (IsInRange (x, x) y ⊎ IsInSet rs y)) → (t : Bool) → Decides t (x <ℤ r.0) → (u : Bool) → Decides u (x ≤ℤ r.1)
        → IsInSet (cond t (behind (x, x) (r ∷ rs)) (cond u (r ∷ rs) (behind r (with_number x rs)))) y ↔ (IsInRange (x, x) y ⊎ IsInSet (r ∷ rs) y)
    go above inner true d u k = joined_members (x, x) (r ∷ rs) y (omega (arith, ints)) (d.0 refl, a.1, a.2)
    go above inner false d true k = let low = most_of_not x r.0 (not_from_Decides false d refl) in let high = k.0 refl in (
      λ h. inr h,
      λ h. elim h [ inl i ↦ inl (let p = i.0 in omega (arith, ints, low, p), let p = i.1 in omega (arith, ints, high, p)) | inr m ↦ m ],
    )
    go above inner false d false k =
        let over = above_of_not x r.1 (not_from_Decides false k refl) in
        let outer = joined_members r (with_number x rs) y a.1 (more_above r.1 x rs over above) in (
          λ h. elim (outer.0 h) [ inl i ↦ inr (inl i) | inr m ↦ elim (inner.0 m) [ inl j ↦ inl j | inr n ↦ inr (inr n) ] ],
          λ h. outer.1 (elim h [ inl i ↦ inr (inner.1 (inl i)) | inr m ↦ elim m [ inl j ↦ inl j | inr n ↦ inr (inner.1 (inr n)) ] ]),
        )

-- ---- all of them

record Rises (rs : List (ℤ × ℤ)) : Type 0 where
  bound : ℤ
  above : Above bound rs

rises : (xs : List ℤ) → Rises (ranges_of xs)
rises [] = record { bound = pos 0; above = tt }
rises (x ∷ xs) = let r = rises xs in go r (int_lt r.bound x) (Decides-int_lt r.bound x)
  where
    go : (r : Rises (ranges_of xs)) (t : Bool) → Decides t (r.bound <ℤ x) → Rises (with_number x (ranges_of xs))
    go r true d = record { bound = r.bound; above = more_above r.bound x (ranges_of xs) (d.0 refl) r.above }
    go r false d =
        let h = most_of_not r.bound x (not_from_Decides false d refl) in
        record { bound = x -ℤ pos 1; above = more_above (x -ℤ pos 1) x (ranges_of xs) (omega (arith, ints)) (lower r.bound (x -ℤ pos 1) (ranges_of xs) (omega (arith, ints, h)) r.above) }

pub ranges_rise : (xs : List ℤ) → AreRanges (ranges_of xs)
ranges_rise xs = let r = rises xs in rising r.bound (ranges_of xs) r.above

pub ranges_hold : (xs : List ℤ) → AreOneSet (ranges_of xs) (points_of xs)
ranges_hold [] y = (λ h. h, λ h. h)
ranges_hold (x ∷ xs) y =
    let r = rises xs in
    let m = more_members r.bound x (ranges_of xs) y r.above in
    let k = ranges_hold xs y in (
      λ h. elim (m.0 h) [ inl i ↦ inl i | inr n ↦ inr (k.0 n) ],
      λ h. m.1 (elim h [ inl i ↦ inl i | inr n ↦ inr (k.1 n) ]),
    )
