use Rattle.std.proofs.Common.{◌*◌, ◌^◌, arith}
use Rattle.fz_ranges.proofs.Divisions.{sized_other, sized_whole, sized_sum, sized_rest_first, count_small}
use Rattle.fz_ranges.proofs.sizes.sizes_of_rest.Goals as goal

pub returns-clause-sizes : goal.returns-clause-sizes
returns-clause-sizes c = λ m n k rest parted is_m is_n is_rest.
    let of_sum = sized_whole c.args.first m n k rest parted is_m in
    let is_most = c.difference-most_whole.ensures.sizes (k * n) rest of_sum is_rest in
    let few = count_small k n c.difference-most_whole.result.high rest parted.below is_most.1 in
    let is_k = c.factor-times.ensures.sizes k n (omega arith, few) is_n is_most in
    let divisor = c.factor-divisor.ensures.sizes n k is_n is_k (sized_other c.difference-most_whole.result k n is_most) in
    let is_whole = c.product-whole.ensures.sizes k n is_k is_n in
    let left = c.difference-rest.ensures.sizes rest (k * n) (sized_rest_first c.args.first m n k rest parted is_m) is_whole in
    let most = c.rest_of-most.ensures.sizes n rest is_n parted.below in
    let below = parted.below in (
      sized_sum c.sum.result m n k rest parted (c.sum.ensures.sizes (k * n) rest is_whole is_rest),
      (let low = divisor.0 in omega (arith, c.max.ensures, low, is_rest, below), divisor.1),
      (left.0, (let to = left.1 in let at_most = most.1 in omega (arith, c.min.ensures, to, at_most))),
    )

pub returns-clause-second : goal.returns-clause-second
returns-clause-second c =
    let value = c.requires.value in
    let whole = c.difference-most_whole.ensures.near (2 ^ 31) c.requires.first in
    let near = c.factor-divisor.ensures.near (2 ^ 31) c.requires.second.1 whole in
    (omega (arith, c.max.ensures, near, value), omega (arith, near))
