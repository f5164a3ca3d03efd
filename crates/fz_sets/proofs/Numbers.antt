-- Whole numbers in order, and how far sums are from 0.
use Rattle.std.proofs.Common.{◌≡◌, ℕ, ℤ, ◌+◌, ◌≤◌, ◌+ℤ◌, ◌≤ℤ◌, ◌<ℤ◌, ◌⊎◌, inl, inr, arith}
use Rattle.std.specs.Prelude.{int_lt, int_le, not, IsTrue}
use Rattle.std.specs.Bool.{Decides}
use Rattle.std.specs.Int.RustNames.{unsigned_abs}
use Rattle.std.proofs.lemmas.Int.{ints, by_lt_z}

pub above_of_not : (x y : ℤ) → (x ≤ℤ y → ⊥) → y <ℤ x
above_of_not x y not_under = by_lt_z y x (λ h. h) (λ h. absurd (not_under h))

pub most_of_not : (x y : ℤ) → (x <ℤ y → ⊥) → y ≤ℤ x
most_of_not x y not_below = by_lt_z x y (λ h. absurd (not_below h)) (λ h. h)

pub same_or_not : (x y : ℤ) → (x ≡ y) ⊎ (x ≡ y → ⊥)
same_or_not x y = by_lt_z x y (λ below. inr (λ e. omega (arith, ints, below, e))) (λ above. by_lt_z y x (λ over. inr (λ e. omega (arith, ints, over, e))) (λ under. inl (omega (arith, ints, above, under))))

-- ---- the tests of code

pub Decides-int_lt : (a b : ℤ) → Decides (int_lt a b) (a <ℤ b)
Decides-int_lt a b = (λ t. grind (arith, ints), λ lt. grind (arith, ints))

pub test_of_le : (x y : ℤ) → x ≤ℤ y → IsTrue (int_le x y)
test_of_le x y h = grind (arith, ints)

pub test_of_above : (x y : ℤ) → y <ℤ x → IsTrue (not (int_le x y))
test_of_above x y h = grind (arith, ints)

-- ---- how far from 0

pub abs_of_sum : (a b : ℤ) → unsigned_abs (a +ℤ b) ≤ unsigned_abs a + unsigned_abs b
abs_of_sum a b = grind (arith, ints)
