use Rattle.std.proofs.Common.{◌+◌, ◌*◌, ◌≤◌, ◌^◌, arith}
use Rattle.fz_ranges.proofs.Divisions.{sized_other, sized_whole, sized_sum, once_more}
use Rattle.fz_ranges.proofs.sizes.sizes_of_quotient.Goals as goal

pub returns-clause-sizes : goal.returns-clause-sizes
returns-clause-sizes c = λ m n k rest parted is_m is_n is_k.
    let is_rest = c.rest_of-rest.ensures.sizes n rest is_n parted.below in
    let is_whole = c.difference-whole.ensures.sizes (k * n) rest (sized_whole c.args.first m n k rest parted is_m) is_rest in
    let divisor = c.factor-divisor.ensures.sizes n k is_n is_k (sized_other c.difference-whole.result k n is_whole) in
    let to_k : k + 1 ≤ c.args.value.high + 1 = omega (arith, is_k) in
    let least : c.fewest-least.result ≤ n = c.fewest-least.ensures.fewest n (k + 1) to_k (once_more c.args.first.low m n k rest parted is_m.0) in (
      sized_sum c.sum.result m n k rest parted (c.sum.ensures.sizes (k * n) rest (c.product.ensures.sizes k n is_k is_n) is_rest),
      (let low = divisor.0 in omega (arith, c.max.ensures, low, least), divisor.1),
      c.factor.ensures.sizes k n is_k is_n is_whole,
    )

pub returns-clause-second : goal.returns-clause-second
returns-clause-second c =
    let first = c.requires.first in
    let second = c.requires.second in
    let near = c.factor-divisor.ensures.near (2 ^ 31) second.1 (c.difference-whole.ensures.near (2 ^ 31) first) in
    let least = c.fewest-least.ensures.near in
    (omega (arith, c.max.ensures, near, least, first), omega (arith, near))

pub returns-clause-value : goal.returns-clause-value
returns-clause-value c =
    let near = c.factor.ensures.near (2 ^ 31) c.requires.value.1 (c.difference-whole.ensures.near (2 ^ 31) c.requires.first) in
    (omega (arith, near), omega (arith, near))
