use Rattle.std.proofs.Common.{◌≡◌, ◌<◌, ◌+◌, ◌*◌, ℕ, length, get_or, subst, arith, rules, replicate}
use Rattle.std.specs.Prelude.{slice_get, Some, pos}
use Rattle.std.proofs.lemmas.Int.{ints}
use Rattle.std.proofs.lemmas.Option.{slice_get-get_or}
use Rattle.std.proofs.Math.Facts.{to_z-of_z}
use mir.Val.{SFits}
use mir.Syntax.{w32}
use Rattle.fz_prop.specs.Matching.{HasRoom}
use Rattle.fz_table.proofs.PairWords.{below_none, below_more, below_all}
use Rattle.fz_table.proofs.pairs.pairs_of.Goals as goal

pub loop-row-init : goal.loop-row-init
loop-row-init c =
    let fits_first : SFits w32 c.clamp-first.result = search rules in
    let low_first = c.clamp-first.ensures.lower_bound in
    let high_first = c.clamp-first.ensures.upper_bound in
    let firsts : HasRoom c.clamp-first.result = (omega (arith, ints, low_first), omega (arith, ints, high_first)) in
    let fits : SFits w32 c.clamp-base.result = search rules in
    let low = c.clamp-base.ensures.lower_bound in
    let high = c.clamp-base.ensures.upper_bound in
    let seconds : HasRoom c.clamp-base.result = (omega (arith, ints, low), omega (arith, ints, high)) in
    let zeros : c.in_ok-words.words.items ≡ replicate c.in-Some.count 0 = search rules in
    below_none c.args.table.now _ c.in-Some.count zeros (rw (to_z-of_z fits_first) firsts) (rw (to_z-of_z fits) seconds)

pub loop-row-preserved : goal.loop-row-preserved
loop-row-preserved c =
    let table = c.args.table.now in
    let row = c.loop-row.row in
    let test = c.loop-row-test.true in
    let x = get_or table (row * 2) (pos 0) in
    let y = get_or table (row * 2 + 1) (pos 0) in
    let in_x : row * 2 < length table = omega (arith, test) in
    let in_y : row * 2 + 1 < length table = omega (arith, test) in
    let e : row * 2 ≡ row * 2 + 0 = omega arith in
    let at_x : slice_get table (row * 2 + 0) ≡ Some x = subst (λ (k : ℕ). slice_get table k ≡ Some x) e (slice_get-get_or table (row * 2) (pos 0) in_x) in
    let at_y : slice_get table (row * 2 + 1) ≡ Some y = slice_get-get_or table (row * 2 + 1) (pos 0) in_y in
    let fits_x : SFits w32 x = search rules in
    let fits_y : SFits w32 y = search rules in
    below_more table c.loop-row.pairs c.add.new.pairs row x y at_x at_y c.add.ensures.first c.add.ensures.base
    (rw (to_z-of_z fits_x, to_z-of_z fits_y) at (c.add.ensures.added c.if-not-add.false)) c.loop-row.invariant

pub returns : goal.returns
returns c =
    let past = c.loop-row-test.false in
    let most = c.loop-row.auto.row-end in
    below_all c.args.table.now c.loop-row.pairs c.loop-row.row (omega (arith, past, most)) c.loop-row.invariant
