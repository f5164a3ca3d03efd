-- The numbers at the bits of a word, as rising ranges: which they are, and how many.
use Rattle.std.proofs.Common.{◌≡◌, ℕ, zero, suc, ◌+◌, ◌^◌, ◌<◌, ◌≤◌, ◌%◌, ◌/◌, ℤ, pos, ◌+ℤ◌, ◌≤ℤ◌, ◌<ℤ◌, ◌⊎◌, inl, inr, List, [], ◌∷◌, Bool, true, false, cond, refl, sym, ap, ◌∙◌, arith}
use Rattle.std.specs.Prelude.{nat_eq}
use Rattle.std.specs.Ordering.{int_eq}
use Rattle.std.specs.Bool.{Decides}
use Rattle.std.specs.Int.{bit_at}
use Rattle.std.specs.Int.Count.{ones, ones_step}
use Rattle.std.proofs.lemmas.Int.{ints, by_lt_z}
use Rattle.std.proofs.lemmas.Nat.Bits.{bit_at_lowest, bit_at-suc}
use Rattle.std.proofs.lemmas.Bool.{false≢true}
use Rattle.std.proofs.lemmas.Bool.Decides.{Decides-int_eq, Decides-eqb, leb_tells}
use Rattle.std.proofs.Math.Nat.{pow-suc}
use Rattle.fz_sets.specs.Sets.{AreRanges, IsInSet, set_size}
use Rattle.fz_dom.specs.Places.{IsPlace, join, ranges_at, bit_ranges}
use Rattle.fz_dom.proofs.Ranges.{AreRanges-head, least_is_in}

-- ---- one number more, below the ranges

record IsJoin (b : ℤ) (rs js : List (ℤ × ℤ)) : Type 0 where
  ranges : AreRanges js
  to : (x : ℤ) → IsInSet js x → (x ≡ b) ⊎ IsInSet rs x
  from : (x : ℤ) → (x ≡ b) ⊎ IsInSet rs x → IsInSet js x
  size : set_size js ≡ suc (set_size rs)

lower_first : (l : ℤ) (r : ℤ × ℤ) (rs : List (ℤ × ℤ)) → l ≤ℤ r.1 → AreRanges (r ∷ rs) → AreRanges ((l, r.1) ∷ rs)
lower_first l r [] le h = le
lower_first l r (s ∷ rs) le h = (le, h.1, h.2)

in_true : (b : ℤ) (r : ℤ × ℤ) (rs : List (ℤ × ℤ)) (x : ℤ) → r.0 ≡ (b +ℤ pos 1) → r.0 ≤ℤ r.1 → (x ≡ b) ⊎ IsInSet (r ∷ rs) x → IsInSet ((b, r.1) ∷ rs) x
in_true b r rs x e le (inl q) = inl (omega (arith, ints, q), omega (arith, ints, q))
in_true b r rs x e le (inr (inl i)) = inl (omega (arith, ints, i.0), i.1)
in_true b r rs x e le (inr (inr i)) = inr i

out_true : (b : ℤ) (r : ℤ × ℤ) (rs : List (ℤ × ℤ)) (x : ℤ) → r.0 ≡ (b +ℤ pos 1) → IsInSet ((b, r.1) ∷ rs) x → (x ≡ b) ⊎ IsInSet (r ∷ rs) x
out_true b r rs x e (inl i) = by_lt_z b x (λ lt. inr (inl (omega (arith, ints), i.1))) (λ le. inl (omega (arith, ints, i.0)))
out_true b r rs x e (inr i) = inr (inr i)

in_false : (b : ℤ) (r : ℤ × ℤ) (rs : List (ℤ × ℤ)) (x : ℤ) → (x ≡ b) ⊎ IsInSet (r ∷ rs) x → IsInSet ((b, b) ∷ r ∷ rs) x
in_false b r rs x (inl q) = inl (omega (arith, ints, q), omega (arith, ints, q))
in_false b r rs x (inr i) = inr i

out_false : (b : ℤ) (r : ℤ × ℤ) (rs : List (ℤ × ℤ)) (x : ℤ) → IsInSet ((b, b) ∷ r ∷ rs) x → (x ≡ b) ⊎ IsInSet (r ∷ rs) x
out_false b r rs x (inl i) = inl (omega (arith, ints, i.0, i.1))
out_false b r rs x (inr i) = inr i

cond_join : (t : Bool) (b : ℤ) (r : ℤ × ℤ) (rs : List (ℤ × ℤ)) → Decides t (r.0 ≡ (b +ℤ pos 1)) → AreRanges (r ∷ rs) → b <ℤ r.0
    → IsJoin b (r ∷ rs) (cond t ((b, r.1) ∷ rs) ((b, b) ∷ r ∷ rs))
cond_join true b r rs d h lt =
    let e = d.0 refl in
    let le = AreRanges-head r rs h in
    record {
      ranges = lower_first b r rs (omega (arith, ints)) h;
      to = λ x i. out_true b r rs x e i;
      from = λ x w. in_true b r rs x e le w;
      size = omega (arith, ints);
    }
cond_join false b r rs d h lt =
    let n : r.0 ≡ (b +ℤ pos 1) → ⊥ = (λ e. false≢true (d.1 e)) in
    record {
      ranges = (omega (arith, ints), omega (arith, ints, n), h);
      to = λ x i. out_false b r rs x i;
      from = λ x w. in_false b r rs x w;
      size = omega (arith, ints);
    }

join_is : (b : ℤ) (rs : List (ℤ × ℤ)) → AreRanges rs → ((x : ℤ) → IsInSet rs x → b <ℤ x) → IsJoin b rs (join b rs)
join_is b [] h f = record {
  ranges = omega (arith, ints);
  to = λ x i. elim i [ inl j ↦ inl (omega (arith, ints, j.0, j.1)) | inr j ↦ absurd j ];
  from = λ x w. elim w [ inl q ↦ inl (omega (arith, ints, q), omega (arith, ints, q)) | inr j ↦ absurd j ];
  size = omega (arith, ints);
}
join_is b (r ∷ rs) h f = cond_join (int_eq r.0 (b +ℤ pos 1)) b r rs (Decides-int_eq r.0 (b +ℤ pos 1)) h (f r.0 (least_is_in r rs h))

-- ---- the numbers at the first n bits

pub record IsRead (n : ℕ) (base : ℤ) (bits : ℕ) (rs : List (ℤ × ℤ)) : Type 0 where
  pub ranges : AreRanges rs
  pub to : (x : ℤ) → IsInSet rs x → IsPlace n base bits x
  pub from : (x : ℤ) → IsPlace n base bits x → IsInSet rs x

place_up : (n : ℕ) (base : ℤ) (bits : ℕ) (x : ℤ) → IsPlace n (base +ℤ pos 1) (bits / 2) x → IsPlace (suc n) base bits x
place_up n base bits x (i, l, e, b) = (suc i, omega (arith, l), omega (arith, ints, e), bit_at-suc bits i ∙ b)

place_down : (n : ℕ) (base : ℤ) (bits : ℕ) (x : ℤ) → IsPlace (suc n) base bits x → ((x ≡ base) × (bits % 2 ≡ 1)) ⊎ IsPlace n (base +ℤ pos 1) (bits / 2) x
place_down n base bits x (zero, l, e, b) = inl (omega (arith, ints, e), sym (bit_at_lowest bits) ∙ b)
place_down n base bits x (suc i, l, e, b) = inr (i, omega (arith, l), omega (arith, ints, e), sym (bit_at-suc bits i) ∙ b)

read_step : (t : Bool) (n : ℕ) (base : ℤ) (bits : ℕ) (rs : List (ℤ × ℤ)) → Decides t (bits % 2 ≡ 0) → IsRead n (base +ℤ pos 1) (bits / 2) rs
    → IsRead (suc n) base bits (cond t rs (join base rs))
read_step true n base bits rs d r = record {
  ranges = r.ranges;
  to = λ x i. place_up n base bits x (r.to x i);
  from = λ x p. elim (place_down n base bits x p) [ inl q ↦ (let e = d.0 refl in let f = q.1 in absurd (omega arith)) | inr q ↦ r.from x q ];
}
read_step false n base bits rs d r =
    let odd : bits % 2 ≡ 1 = (let m : bits % 2 ≡ 0 → ⊥ = (λ e. false≢true (d.1 e)) in omega (arith, m)) in
    let j = join_is base rs r.ranges (λ x i. let p = (r.to x i).2 in omega (arith, ints)) in
    record {
      ranges = j.ranges;
      to = λ x i. elim (j.to x i) [
        | inl e ↦ (0, omega arith, omega (arith, ints, e), bit_at_lowest bits ∙ odd)
        | inr k ↦ place_up n base bits x (r.to x k)
      ];
      from = λ x p. elim (place_down n base bits x p) [ inl q ↦ j.from x (inl q.0) | inr q ↦ j.from x (inr (r.from x q)) ];
    }

pub ranges_read : (n : ℕ) (base : ℤ) (bits : ℕ) → IsRead n base bits (ranges_at n base bits)
unfolding ranges_at
ranges_read zero base bits = record { ranges = tt; to = λ x i. absurd i; from = λ x p. let l = p.1 in absurd (omega arith) }
ranges_read (suc n) base bits =
    read_step (nat_eq (bits % 2) 0) n base bits (ranges_at n (base +ℤ pos 1) (bits / 2)) (Decides-eqb (bits % 2) 0) (ranges_read n (base +ℤ pos 1) (bits / 2))

pub bits_read : (base : ℤ) (bits : ℕ) → IsRead 64 base bits (bit_ranges base bits)
unfolding bit_ranges
bits_read base bits = ranges_read 64 base bits

-- ---- how many they are

size_step : (t : Bool) (n : ℕ) (base : ℤ) (bits : ℕ) (rs : List (ℤ × ℤ)) → Decides t (bits % 2 ≡ 0) → IsRead n (base +ℤ pos 1) (bits / 2) rs
    → set_size (cond t rs (join base rs)) ≡ bits % 2 + set_size rs
size_step true n base bits rs d r = let e = d.0 refl in omega arith
size_step false n base bits rs d r =
    let odd : bits % 2 ≡ 1 = (let m : bits % 2 ≡ 0 → ⊥ = (λ e. false≢true (d.1 e)) in omega (arith, m)) in
    let j = (join_is base rs r.ranges (λ x i. let p = (r.to x i).2 in omega (arith, ints))).size in
    omega arith

half_below : (n a : ℕ) → a < 2 ^ suc n → a / 2 < 2 ^ n
half_below n a h = let p = pow-suc 2 n in omega arith

ranges_count : (n : ℕ) (base : ℤ) (bits : ℕ) → bits < 2 ^ n → set_size (ranges_at n base bits) ≡ ones bits
unfolding ranges_at ones
ranges_count zero base bits h = let z : bits ≡ 0 = omega (arith, h) in rw z refl
ranges_count (suc n) base bits h =
    size_step (nat_eq (bits % 2) 0) n base bits (ranges_at n (base +ℤ pos 1) (bits / 2)) (Decides-eqb (bits % 2) 0) (ranges_read n (base +ℤ pos 1) (bits / 2))
    ∙ ap (λ (x : ℕ). bits % 2 + x) (ranges_count n (base +ℤ pos 1) (bits / 2) (half_below n bits h)) ∙ sym (ones_step bits)

pub bits_count : (base : ℤ) (bits : ℕ) → bits < 2 ^ 64 → set_size (bit_ranges base bits) ≡ ones bits
unfolding bit_ranges
bits_count base bits h = ranges_count 64 base bits h

by_odd : (x y : ℕ) → x < 2 → (x ≡ 1 → y ≡ 1) → x ≤ y
by_odd zero y l f = omega arith
by_odd (suc zero) y l f = let e = f refl in omega arith
by_odd (suc (suc x)) y l f = absurd (omega (arith, l))

low_le : (a b : ℕ) → (a % 2 ≡ 1 → b % 2 ≡ 1) → a % 2 ≤ b % 2
low_le a b f = by_odd (a % 2) (b % 2) (omega arith) f

le_cases : (x y : ℕ) → x ≤ y → (x ≡ y) ⊎ (x < y)
le_cases x y l = elim (leb_tells y x) [ inl t ↦ inl (omega (arith, t.1)) | inr t ↦ inr (omega (arith, t.1)) ]

-- fewer bits: the same, or a smaller count
ones_fall_at : (n a b : ℕ) → a < 2 ^ n → b < 2 ^ n → ((i : ℕ) → bit_at a i ≡ 1 → bit_at b i ≡ 1) → (a ≡ b) ⊎ (ones a < ones b)
ones_fall_at zero a b p q f = inl (omega (arith, p, q))
ones_fall_at (suc n) a b p q f =
    let s = ones_step a in
    let t = ones_step b in
    let low : a % 2 ≤ b % 2 = low_le a b (λ e. sym (bit_at_lowest b) ∙ f 0 (bit_at_lowest a ∙ e)) in
    elim (ones_fall_at n (a / 2) (b / 2) (half_below n a p) (half_below n b q) (λ i e. sym (bit_at-suc b i) ∙ f (suc i) (bit_at-suc a i ∙ e))) [
      | inl e ↦ elim (le_cases (a % 2) (b % 2) low) [ inl g ↦ inl (omega arith) | inr g ↦ (let o : ones (a / 2) ≡ ones (b / 2) = ap ones e in inr (omega arith)) ]
      | inr l ↦ inr (omega arith)
    ]

pub ones_fall : (a b : ℕ) → a < 2 ^ 64 → b < 2 ^ 64 → ((i : ℕ) → bit_at a i ≡ 1 → bit_at b i ≡ 1) → (a ≡ b) ⊎ (ones a < ones b)
ones_fall a b p q f = ones_fall_at 64 a b p q f
