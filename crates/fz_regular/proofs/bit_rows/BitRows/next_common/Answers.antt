use Rattle.std.proofs.Common.{ℕ, arith}
use Rattle.fz_regular.specs.BitRows.{HaveBoth}
use Rattle.fz_regular.proofs.Words.{moved_common, next_here, next_or}
use Rattle.fz_regular.proofs.bit_rows.BitRows.next_common.Goals as goal

pub returns-then-here-ne0 : goal.returns-then-here-ne0
returns-then-here-ne0 c =
    let b = c.args.self.now in
    let other = c.args.other.now in
    let from = c.args.from in
    let both : ℕ → Type 0 = HaveBoth b c.args.row other c.args.other_row in
    let least = c.min.ensures in
    let below = c.if-first-min.false in
    let moved = moved_common b other c.args.row c.args.other_row from c.common-both.result c.lowered-here.result (omega (arith, least, below)) (omega (arith, least, below)) c.common-both.type_inv
    (rw (c.word.ensures, c.word-2.ensures) at c.common-both.ensures) c.lowered-here.ensures in
    next_here both from c.lowered-here.result c.lowest_bit.result moved c.lowest_bit.ensures.place c.lowest_bit.ensures.bit c.lowest_bit.ensures.none_before

pub returns : goal.returns
returns c =
    let b = c.args.self.now in
    let other = c.args.other.now in
    let from = c.args.from in
    let both : ℕ → Type 0 = HaveBoth b c.args.row other c.args.other_row in
    let least = c.min.ensures in
    let below = c.if-first-min.false in
    let moved = moved_common b other c.args.row c.args.other_row from c.common-both.result c.lowered-here.result (omega (arith, least, below)) (omega (arith, least, below)) c.common-both.type_inv
    (rw (c.word.ensures, c.word-2.ensures) at c.common-both.ensures) c.lowered-here.ensures in
    next_or both from c.lowered-here.result c.first_common.result moved c.if-here-ne0.false c.first_common.ensures
