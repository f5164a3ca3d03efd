use Rattle.std.proofs.Common.{◌≡◌, rules, add-one, pos}
use Rattle.std.specs.Prelude.{slice_index_or}
use Rattle.std.proofs.Math.Facts.{to_z-of_z}
use mir.Val.{SFits, to_z}
use mir.Syntax.{w32}
use Rattle.fz_spec.specs.declared.term.Term.TheVariants.{Num}
use Rattle.fz_strength.specs.Operations.{low_of, high_of}
use Rattle.fz_arith.specs.Extremes.{pick}
use Rattle.fz_arith.proofs.Places.{fold_mapped}
use Rattle.fz_arith.proofs.ends.extreme_bounds.Goals as goal

pub loop-term-preserved : goal.loop-term-preserved
loop-term-preserved c =
    let ds = c.args.store.now.doms in
    let ts = c.args.rest.now in
    let i = c.loop-term.term-index in
    let low = c.least_of.result in
    let high = c.greatest_of.result in
    let fits_low : SFits w32 low = search rules in
    let fits_high : SFits w32 high = search rules in
    let fits_least : SFits w32 c.pick-low.result = search rules in
    let fits_greatest : SFits w32 c.pick-high.result = search rules in
    let p : c.pick-low.result ≡ pick c.args.operation (to_z w32 c.loop-term.low-bits) low = rw (to_z-of_z fits_low) at c.pick-low.ensures in
    let q : c.pick-high.result ≡ pick c.args.operation (to_z w32 c.loop-term.high-bits) high = rw (to_z-of_z fits_high) at c.pick-high.ensures in
    let m = fold_mapped (pick c.args.operation) (low_of ds) (low_of ds c.args.first) ts i (Num (pos 0)) c.loop-term-test.true in
    let n = fold_mapped (pick c.args.operation) (high_of ds) (high_of ds c.args.first) ts i (Num (pos 0)) c.loop-term-test.true in
    let low_is : low ≡ low_of ds (slice_index_or ts i (Num (pos 0))) = c.least_of.ensures.least in
    let high_is : high ≡ high_of ds (slice_index_or ts i (Num (pos 0))) = c.greatest_of.ensures.greatest in
    record {
      low = rw (to_z-of_z fits_least, add-one i, m, ← low_is, ← c.loop-term.invariant.low) p;
      high = rw (to_z-of_z fits_greatest, add-one i, n, ← high_is, ← c.loop-term.invariant.high) q;
    }
