use Rattle.std.proofs.Common.{ℕ, ◌+◌, ◌*◌, arith}
use Rattle.fz_regular.specs.BitRows.{HaveBoth}
use Rattle.fz_regular.proofs.Words.{clear_more, moved_whole, next_clear, next_here}
use Rattle.fz_regular.proofs.bit_rows.BitRows.first_common.Goals as goal

pub overflow_mul-result : goal.overflow_mul-result
overflow_mul-result c = let below = c.loop-place-test.true in let least = c.min-place-end.ensures in let few = c.requires.here.1 in omega (arith, below, few, least)

pub overflow_add-result : goal.overflow_add-result
overflow_add-result c =
    let below = c.loop-place-test.true in
    let least = c.min-place-end.ensures in
    let few = c.requires.here.1 in
    let low = c.lowest_bit.ensures.place in
    omega (arith, below, few, low, least)

pub returns-then-word-ne0 : goal.returns-then-word-ne0
returns-then-word-ne0 c =
    let b = c.args.self.now in
    let other = c.args.other.now in
    let both : ℕ → Type 0 = HaveBoth b c.args.row other c.args.other_row in
    let place = c.loop-place.place in
    let below = c.loop-place-test.true in
    let least = c.min-place-end.ensures in
    let moved = moved_whole b other c.args.row c.args.other_row place c.common-word.result (omega (arith, below, least)) (omega (arith, below, least)) (rw (c.word.ensures, c.word-in-loop-place.ensures) at c.common-word.ensures) in
    next_clear both c.args.first place (place * 64 + c.lowest_bit.result) c.loop-place.auto.place c.loop-place.invariant
    (next_here both (place * 64) c.common-word.result c.lowest_bit.result moved c.lowest_bit.ensures.place c.lowest_bit.ensures.bit c.lowest_bit.ensures.none_before)

pub loop-place-preserved : goal.loop-place-preserved
loop-place-preserved c =
    let b = c.args.self.now in
    let other = c.args.other.now in
    let both : ℕ → Type 0 = HaveBoth b c.args.row other c.args.other_row in
    let place = c.loop-place.place in
    let below = c.loop-place-test.true in
    let least = c.min-place-end.ensures in
    let moved = moved_whole b other c.args.row c.args.other_row place c.common-word.result (omega (arith, below, least)) (omega (arith, below, least)) (rw (c.word.ensures, c.word-in-loop-place.ensures) at c.common-word.ensures) in
    clear_more both c.args.first place c.common-word.result moved c.if-word-ne0.false c.loop-place.invariant
