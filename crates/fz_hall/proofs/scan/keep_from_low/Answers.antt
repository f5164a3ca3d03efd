use Rattle.std.proofs.Common.{◌≡◌, ◌∙◌, rules, w32}
use Rattle.std.specs.Prelude.{◌≤ℤ◌}
use Rattle.std.proofs.Math.Facts.{to_z-of_z}
use mir.Val.{SFits}
use Rattle.fz_strength.specs.Differences.{IsSpread}
use Rattle.fz_hall.proofs.Pairs.{spread_more}
use Rattle.fz_hall.proofs.scan.keep_from_low.Goals as goal

pub loop-term-preserved : goal.loop-term-preserved
loop-term-preserved c =
    let xs = c.args.terms.now in
    let s = c.loop-term.store in
    let t = c.keep_interval.new.store in
    let low = c.args.low in
    let high = c.ends_of-high.result.high in
    let low_fits : SFits w32 low = search rules in
    let high_fits : SFits w32 high = search rules in
    let same : t ≡ s = rw c.in-Same.is at c.in_ok-change.ensures.outcome in
    let here : low ≤ℤ high → IsSpread xs t.doms low high = λ order.
    rw (c.in-Same.is, to_z-of_z low_fits, to_z-of_z high_fits) at (c.in_ok-change.ensures.spread (rw (to_z-of_z low_fits, to_z-of_z high_fits) order)) in
    record {
      same = same ∙ c.loop-term.invariant.same;
      spread = rw (to_z-of_z low_fits) (spread_more xs s t c.loop-term.term-index low high same c.loop-term-test.true (rw (to_z-of_z low_fits) at c.loop-term.invariant.spread) c.ends_of-high.ensures.high here);
    }
