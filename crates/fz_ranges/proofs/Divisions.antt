-- Divisions of natural numbers.
use Rattle.std.proofs.Common.{◌≡◌, ℕ, ◌+◌, ◌-◌, ◌*◌, ◌<◌, ◌≤◌, arith, subst, sym}
use Rattle.fz_ranges.specs.declared.sizes.Sizes.{Sizes}
use Rattle.fz_ranges.specs.Sizes.{IsSized, IsParted}

commuted : (m n : ℕ) → m * n ≡ n * m
commuted m n = omega arith

pub sized_other : (s : Sizes) (m n : ℕ) → IsSized s (m * n) → IsSized s (n * m)
sized_other s m n is = subst (λ (p : ℕ). IsSized s p) (commuted m n) is

pub sized_whole : (s : Sizes) (m n k rest : ℕ) → IsParted m n k rest → IsSized s m → IsSized s (k * n + rest)
sized_whole s m n k rest parted is = subst (λ (p : ℕ). IsSized s p) parted.sum is

pub sized_sum : (s : Sizes) (m n k rest : ℕ) → IsParted m n k rest → IsSized s (k * n + rest) → IsSized s m
sized_sum s m n k rest parted is = subst (λ (p : ℕ). IsSized s p) (sym parted.sum) is

-- the rest first
pub sized_rest_first : (s : Sizes) (m n k rest : ℕ) → IsParted m n k rest → IsSized s m → IsSized s (rest + k * n)
sized_rest_first s m n k rest parted is =
    let e : k * n + rest ≡ rest + k * n = omega arith in
    subst (λ (p : ℕ). IsSized s p) e (sized_whole s m n k rest parted is)

-- what is divided is less than once more the divisor
pub once_more : (low m n k rest : ℕ) → IsParted m n k rest → low ≤ m → low + 1 ≤ n * (k + 1)
once_more low m n k rest parted from =
    let sum = parted.sum in
    let below = parted.below in
    let e : n * (k + 1) ≡ k * n + n = omega arith in
    omega (arith, sum, below, e, from)

products_rise : (k n : ℕ) → k ≤ k * (n + 1)
products_rise k n = omega arith

-- a divisor isn't 0, so it is taken no more often than the whole is large
pub count_small : (k n high rest : ℕ) → rest < n → k * n ≤ high → k ≤ high
count_small k n high rest some to =
    let e : n ≡ (n - 1) + 1 = omega (arith, some) in
    let rise = products_rise k (n - 1) in
    let product : k * ((n - 1) + 1) ≤ high = subst (λ (i : ℕ). k * i ≤ high) e to in
    omega (arith, rise, product)
