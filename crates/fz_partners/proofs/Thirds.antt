-- The number that makes a sum with two others: what is left, divided by its factor.
use Rattle.std.proofs.Common.{◌≡◌, inl, inr, arith, pos}
use Rattle.std.specs.Prelude.{ℤ, ◌+ℤ◌, ◌-ℤ◌, ◌*ℤ◌, ◌≤ℤ◌, ◌<ℤ◌}
use Rattle.std.proofs.lemmas.Int.{ints, by_lt_z}
use Rattle.fz_num.specs.Quotients.{IsFloor}
use Rattle.fz_num.proofs.Products.{rising_by, falling_by}
use Rattle.fz_num.proofs.Euclid.{one_more}
use Rattle.fz_partners.specs.declared.equation.Equation.{Equation}
use Rattle.fz_partners.specs.Equations.{IsSumOf}

rest_is : (x y z c r : ℤ) → r ≡ ((c -ℤ x) -ℤ y) → (x +ℤ (y +ℤ (z +ℤ pos 0))) ≡ c → z ≡ r
rest_is x y z c r left sum = omega (arith, ints, left, sum)

sum_is : (x y z c r : ℤ) → r ≡ ((c -ℤ x) -ℤ y) → z ≡ r → (x +ℤ (y +ℤ (z +ℤ pos 0))) ≡ c
sum_is x y z c r left is = omega (arith, ints, left, is)

pub rest_of_sum : (e : Equation) (u v w r : ℤ) → r ≡ ((e.number -ℤ e.first.factor *ℤ u) -ℤ e.second.factor *ℤ v) → IsSumOf e u v w → (e.third.factor *ℤ w) ≡ r
rest_of_sum e u v w r left sum = rest_is (e.first.factor *ℤ u) (e.second.factor *ℤ v) (e.third.factor *ℤ w) e.number r left sum

pub sum_of_rest : (e : Equation) (u v w r : ℤ) → r ≡ ((e.number -ℤ e.first.factor *ℤ u) -ℤ e.second.factor *ℤ v) → (e.third.factor *ℤ w) ≡ r → IsSumOf e u v w
sum_of_rest e u v w r left is = sum_is (e.first.factor *ℤ u) (e.second.factor *ℤ v) (e.third.factor *ℤ w) e.number r left is

comm : (x y : ℤ) → (x *ℤ y) ≡ (y *ℤ x)
comm x y = grind (arith, ints)

-- a factor times one more
step : (m x : ℤ) → (m *ℤ (x +ℤ pos 1)) ≡ ((x *ℤ m) +ℤ m)
step m x = rw (comm m (x +ℤ pos 1)) (one_more x m)

-- of two numbers times a factor above 0, less than it apart, neither is above the other
near_up : (m q w : ℤ) → pos 0 <ℤ m → pos 0 ≤ℤ (m *ℤ w -ℤ q *ℤ m) → (m *ℤ w -ℤ q *ℤ m) <ℤ m → q ≡ w
near_up m q w above low high = by_lt_z q w
    (λ below. let h = rising_by m (q +ℤ pos 1) w (omega (arith, ints, above)) (omega (arith, ints, below)) in let s = step m q in absurd (omega (arith, ints, h, s, high)))
    (λ past. by_lt_z w q
    (λ over. let h = rising_by m (w +ℤ pos 1) q (omega (arith, ints, above)) (omega (arith, ints, over)) in let s = step m w in let o = comm m w in let p = comm m q in absurd (omega (arith, ints, above, h, s, o, p, low)))
    (λ under. omega (arith, ints, past, under)))

near_down : (m q w : ℤ) → m <ℤ pos 0 → m <ℤ (m *ℤ w -ℤ q *ℤ m) → (m *ℤ w -ℤ q *ℤ m) ≤ℤ pos 0 → q ≡ w
near_down m q w under low high = by_lt_z q w
    (λ below. let h = falling_by m (q +ℤ pos 1) w under (omega (arith, ints, below)) in let s = step m q in absurd (omega (arith, ints, h, s, low)))
    (λ past. by_lt_z w q
    (λ over. let h = falling_by m (w +ℤ pos 1) q under (omega (arith, ints, over)) in let s = step m w in let o = comm m w in let p = comm m q in absurd (omega (arith, ints, under, h, s, o, p, high)))
    (λ last. omega (arith, ints, past, last)))

-- the quotient of a multiple
pub floor_exact : (m r q w : ℤ) → IsFloor r m q → (m *ℤ w) ≡ r → q ≡ w
floor_exact m r q w (inl rest) is = near_up m q w (omega (arith, ints, rest)) (rw is rest.0) (rw is rest.1)
floor_exact m r q w (inr rest) is = near_down m q w (omega (arith, ints, rest)) (rw is rest.0) (rw is rest.1)
