-- Squares, and the sizes of what is squared.
use Rattle.std.proofs.Common.{◌≡◌, ℕ, suc, ◌+◌, ◌-◌, ◌*◌, ◌<◌, ◌≤◌, refl, sym, subst, arith, ◌⊎◌, inl, inr}
use Rattle.std.specs.Prelude.{ℤ, pos, negsuc, neg_ℤ, ◌*ℤ◌, ◌≤ℤ◌, ◌<ℤ◌}
use Rattle.std.proofs.lemmas.Int.{ints, clamps, by_lt_z}
use Rattle.std.proofs.Math.IntN.{pos-*ℤ-pos, negsuc-*ℤ-negsuc}
use Rattle.fz_ranges.specs.Roots.{IsRoot}

-- a square, and the size of what is squared
pub square : (u : ℤ) → (v : ℕ) × ((u *ℤ u) ≡ pos (v * v)) × ((u ≡ pos v) ⊎ (u ≡ neg_ℤ (pos v)))
square (pos m) = (m, pos-*ℤ-pos m m, inl refl)
square (negsuc m) = (suc m, negsuc-*ℤ-negsuc m m, inr refl)

squares_rise : (a d : ℕ) → a * a ≤ (a + d) * (a + d)
squares_rise a d = omega arith

square_of : (a v : ℕ) → a ≤ v → a * a ≤ v * v
square_of a v to =
    let e : v ≡ a + (v - a) = omega (arith, to) in
    subst (λ (k : ℕ). a * a ≤ k * k) (sym e) (squares_rise a (v - a))

pub below_root : (n : ℤ) (root v : ℕ) → IsRoot n root → pos (v * v) ≤ℤ n → v ≤ root
below_root n root v is at = by_lt_z (pos root) (pos v)
    (λ over. let rise = square_of (root + 1) v (omega (arith, ints, over)) in let next = is.1 in absurd (omega (arith, ints, rise, next, at)))
    (λ to. omega (arith, ints, to))

pub root_least : (n : ℤ) (root v : ℕ) → IsRoot n root → (n <ℤ pos (v * v)) → pos 0 ≤ℤ n → root < v
root_least n root v is at from = by_lt_z (pos root) (pos v)
    (λ under. omega (arith, ints, under))
    (λ to. let rise = square_of v root (omega (arith, ints, to)) in let below = is.0 in absurd (omega (arith, ints, clamps, rise, below, at, from)))

-- the root of a square between two numbers
pub root_between : (u most least low high : ℤ) (n m : ℤ) (root : ℕ) → IsRoot m root → most ≡ pos root → ((v : ℕ) → n ≤ℤ pos (v * v) → least ≤ℤ pos v)
    → n ≤ℤ (u *ℤ u) → (u *ℤ u) ≤ℤ m → low ≤ℤ u → u ≤ℤ high
    → (neg_ℤ most ≤ℤ u) × (u ≤ℤ most) × (neg_ℤ least <ℤ low → least ≤ℤ u) × (high <ℤ least → u ≤ℤ neg_ℤ least)
root_between u most least low high n m root is of_most is_least from to in_low in_high =
    let s = square u in
    let v = s.0 in
    let small : v ≤ root = below_root m root v is (rw s.1 at to) in
    let large : least ≤ℤ pos v = is_least v (rw s.1 at from) in
    elim s.2 [
      | inl e ↦ (
        omega (arith, ints, e, small, of_most),
        omega (arith, ints, e, small, of_most),
        (λ above. omega (arith, ints, e, large)),
        (λ below. omega (arith, ints, e, large, below, in_high)),
      )
      | inr e ↦ (
        omega (arith, ints, e, small, of_most),
        omega (arith, ints, e, small, of_most),
        (λ above. omega (arith, ints, e, large, above, in_low)),
        (λ below. omega (arith, ints, e, large)),
      )
    ]
