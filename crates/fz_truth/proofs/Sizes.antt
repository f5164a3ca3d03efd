-- How far a sum is from 0 at most.
use Rattle.std.proofs.Common.{◌≡◌, ℕ, ℤ, ◌+◌, ◌*◌, ◌≤◌, ◌+ℤ◌, arith}
use Rattle.std.specs.Int.RustNames.{unsigned_abs}
use Rattle.fz_sets.proofs.Numbers.{abs_of_sum}

-- a sum of one number more, where each is within a bound
pub near_more : (bound n : ℕ) (a b : ℤ) → unsigned_abs a ≤ n * bound → unsigned_abs b ≤ bound → unsigned_abs (a +ℤ b) ≤ (n + 1) * bound
near_more bound n a b h k =
    let s = abs_of_sum a b in
    let more : (n + 1) * bound ≡ n * bound + bound = grind arith in
    omega (arith, h, k, s, more)
