use Rattle.std.proofs.Common.{◌≡◌, ◌<◌, ◌∙◌, arith, length, get_or}
use Rattle.std.specs.Prelude.{pos}
use Rattle.std.proofs.lemmas.Int.{ints}
use Rattle.fz_region.proofs.Values.{found_in, value_sum, range_rises, range_within, any_default}
use Rattle.fz_region.proofs.value.value_at.Goals as goal

pub overflow_cast-result-then-left-size : goal.overflow_cast-result-then-left-size
overflow_cast-result-then-left-size c =
    let d = c.args.values.now in
    let i = c.loop-i.i in
    let r = c.range_at-low.result in
    let lt : i < length d = omega (arith, c.range_count-i-end.ensures.count, c.loop-i-test.true) in
    let is : r ≡ get_or d i r = any_default d i r (pos 0, pos 0) lt c.range_at-low.ensures.range in
    let within = range_within d i r c.range_at-low.ensures.domain.1 lt is in
    let sum = value_sum r.0 r.1 c.from.result c.loop-i.left c.from-size.result c.abs_diff.result within.0 within.1 (range_rises d i r c.range_at-low.ensures.domain.0 lt is) c.from.ensures c.abs_diff.ensures c.from-size.ensures c.if-left-size.true in
    omega (arith, ints, sum.0, sum.1, within.0.0, within.0.1, within.1.1)

pub returns-then-left-size : goal.returns-then-left-size
returns-then-left-size c =
    let d = c.args.values.now in
    let i = c.loop-i.i in
    let r = c.range_at-low.result in
    let lt : i < length d = omega (arith, c.range_count-i-end.ensures.count, c.loop-i-test.true) in
    let is : r ≡ get_or d i r = any_default d i r (pos 0, pos 0) lt c.range_at-low.ensures.range in
    let within = range_within d i r c.range_at-low.ensures.domain.1 lt is in
    let sum = value_sum r.0 r.1 c.from.result c.loop-i.left c.from-size.result c.abs_diff.result within.0 within.1 (range_rises d i r c.range_at-low.ensures.domain.0 lt is) c.from.ensures c.abs_diff.ensures c.from-size.ensures c.if-left-size.true in
    omega (arith, ints, sum.0, sum.1, within.0.0, within.0.1, within.1.1) ∙ found_in d i c.loop-i.left c.args.place r lt is c.loop-i.invariant sum.2
