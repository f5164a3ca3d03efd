use Rattle.std.specs.Prelude.{unsigned_abs}
use Rattle.fz_ranges.proofs.ranges.all_sized.Goals as goal

pub returns-then-is_some_empty : goal.returns-then-is_some_empty
returns-then-is_some_empty c = λ u w v is made. absurd (c.is_some_empty.ensures.some c.if-is_some_empty.true u w v is)

pub returns : goal.returns
returns c = λ u w v is made.
    let is_u = c.sizes_of.ensures.sizes u is.0 in
    let is_w = c.sizes_of-2.ensures.sizes w is.1 in
    let is_v = c.sizes_of-3.ensures.sizes v is.2 in
    let all = c.sizes_by-sizes.ensures.sizes (unsigned_abs u) (unsigned_abs w) (unsigned_abs v) made is_u is_w is_v in
    c.or_nothing.ensures u w v (c.sized.ensures u is.0 all.0, c.sized-2.ensures w is.1 all.1, c.sized-3.ensures v is.2 all.2)
