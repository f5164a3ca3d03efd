use Rattle.std.proofs.Common.{◌≡◌, ◌<◌, ◌+◌, ◌≤ℤ◌, ◌+ℤ◌, ℕ, ℤ, rules, pos, get_or, drop, to_z, of_z, w64}
use Rattle.std.specs.Prelude.{◌↔◌}
use Rattle.std.specs.Int.{bit_at}
use Rattle.std.proofs.lemmas.List.{drop_more}
use Rattle.fz_dom.proofs.Lists.{word_more}
use Rattle.fz_dom.proofs.Ranges.{proper}
use Rattle.fz_dom.proofs.rising.word_of.Goals as goal

pub window_of-requires-clause-order : goal.window_of-requires-clause-order
window_of-requires-clause-order c =
    let p = proper c.args.ranges.now c.loop-r.r-index (pos 0, pos 0) c.requires.ranges c.loop-r-test.true in
    search rules

pub loop-r-preserved : goal.loop-r-preserved
loop-r-preserved c =
    let rs = c.args.ranges.now in
    let i = c.loop-r.r-index in
    let b : ℤ = to_z w64 (of_z w64 c.args.base) in
    let r = get_or rs i (pos 0, pos 0) in
    let w : (i : ℕ) → i < 64 → (bit_at c.window_of.result i ≡ 1) ↔ ((r.0 ≤ℤ (b +ℤ pos i)) × ((b +ℤ pos i) ≤ℤ r.1)) = search (rules, c.window_of.ensures) in
    word_more c.loop-r.word c.window_of.result c.either-word.result rs (drop i rs) r (drop (i + 1) rs) b
    (drop_more rs i (pos 0, pos 0) c.loop-r-test.true) c.either-word.ensures w c.loop-r.invariant
