use Rattle.std.proofs.Common.{◌≡◌, rules, get_or, pos, arith}
use Rattle.std.specs.Prelude.{ℤ, ◌≤ℤ◌}
use Rattle.std.specs.Int.{int_max}
use Rattle.std.proofs.lemmas.Int.{ints, clamps}
use Rattle.std.proofs.Math.Facts.{to_z-of_z}
use mir.Val.{SFits, to_z}
use mir.Syntax.{w128}
use Rattle.fz_sets.proofs.Lists.{all_get, same_at}
use Rattle.fz_cumulative.proofs.Whole.{peak_more}
use Rattle.fz_cumulative.proofs.finding.peak.Goals as goal

pub loop-i-preserved : goal.loop-i-preserved
loop-i-preserved c =
    let loads = c.args.loads.now in
    let load = get_or loads c.loop-i.i (pos 0) in
    let before = to_z w128 c.loop-i.peak-bits in
    let fits : SFits w128 c.greater-peak.result = search rules in
    let load_fits : SFits w128 load = search rules in
    let rise : before ≤ℤ c.greater-peak.result = c.greater-peak.ensures.peak in
    let here : load ≤ℤ c.greater-peak.result = rw (to_z-of_z load_fits) at c.greater-peak.ensures.load in
    let positive : pos 0 ≤ℤ before = c.loop-i.invariant.positive in
    rw (to_z-of_z fits) (record {
      above = peak_more loads before c.greater-peak.result load c.loop-i.i c.loop-i-test.true (same_at loads c.loop-i.i (pos 0) load c.loop-i-test.true) rise here c.loop-i.invariant.above;
      positive = omega (arith, ints, positive, rise);
      least = λ bound from all.
          let so_far = c.loop-i.invariant.least bound from all in
          let more = all_get (λ (load : ℤ). load ≤ℤ bound) loads c.loop-i.i (pos 0) c.loop-i-test.true all in
          let is : c.greater-peak.result ≡ int_max before load = rw (to_z-of_z load_fits) at c.greater-peak.ensures.greater in
          omega (arith, ints, clamps, so_far, more, is);
    })
