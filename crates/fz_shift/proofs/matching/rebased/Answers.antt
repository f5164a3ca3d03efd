use Rattle.std.proofs.Common.{◌⊎◌, ◌≤ℤ◌, ◌+ℤ◌, ◌<◌, ◌^◌, pos, inl, inr, arith, rules}
use Rattle.std.proofs.lemmas.Int.{ints, by_lt_z}
use Rattle.fz_dom.proofs.Windows.{far_word, down_word, up_word}
use Rattle.fz_shift.proofs.matching.rebased.Goals as goal

pub returns-then-distance-ge64 : goal.returns-then-distance-ge64
returns-then-distance-ge64 c = λ i l.
    let far : ((c.args.from +ℤ pos 64) ≤ℤ c.args.to) ⊎ ((c.args.to +ℤ pos 64) ≤ℤ c.args.from) =
    by_lt_z c.args.from c.args.to (λ lt. inl (let t = c.if-distance-ge64.true in omega (arith, ints))) (λ le. inr (let t = c.if-distance-ge64.true in omega (arith, ints))) in
    far_word c.args.word c.args.from c.args.to i l far

pub returns-then-from-to : goal.returns-then-from-to
returns-then-from-to c =
    let q : c.args.word < 2 ^ 64 = search rules in
    let t = c.if-from-to.true in
    down_word c.args.word c.lowered.result _ c.args.from c.args.to q (omega (arith, ints)) c.lowered.ensures

pub returns-else-from-to : goal.returns-else-from-to
returns-else-from-to c =
    let t = c.if-from-to.false in
    up_word c.args.word c.raised.result _ c.args.from c.args.to (omega (arith, ints)) c.raised.ensures
