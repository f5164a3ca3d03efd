use Rattle.std.proofs.Common.{◌≡◌, ℤ, rules, add-one, pos, arith, ap, ◌∙◌}
use Rattle.std.specs.Prelude.{slice_index_or}
use Rattle.std.specs.Int.{int_min}
use Rattle.std.proofs.Math.Facts.{to_z-of_z}
use mir.Val.{SFits, to_z}
use mir.Syntax.{w32, w64}
use Rattle.fz_strength.specs.Operations.{size_between}
use Rattle.fz_arith.proofs.Places.{least_more}
use Rattle.fz_arith.proofs.ends.least_size_of_ranges.Goals as goal

pub sizes-preserved : goal.sizes-preserved
sizes-preserved c =
    let d = c.args.set.now in
    let i = c.sizes.index in
    let here : ℤ × ℤ = slice_index_or d i (pos 0, pos 0) in
    let fits_size : SFits w64 c.size_between.result = search rules in
    let fits_least : SFits w64 c.min-least.result = search rules in
    let range = c.range_at-low-in-sizes.ensures.range in
    let fits_low : SFits w32 c.range_at-low-in-sizes.result.0 = search rules in
    let fits_high : SFits w32 c.range_at-low-in-sizes.result.1 = search rules in
    let size_is : c.size_between.result ≡ size_between c.range_at-low-in-sizes.result = rw (to_z-of_z fits_low, to_z-of_z fits_high) at c.size_between.ensures in
    let size : c.size_between.result ≡ size_between here = size_is ∙ ap size_between range in
    let least : c.min-least.result ≡ int_min (to_z w64 c.sizes.least-bits) c.size_between.result = rw (to_z-of_z fits_size) at c.min-least.ensures.value in
    let more = least_more d i (pos 0, pos 0) c.sizes.invariant.some (omega (arith, c.sizes-test.true, c.range_count-index-end.ensures.count, c.sizes.auto.index-end)) in
    record {
      some = omega arith;
      least = rw (to_z-of_z fits_least, add-one i, more, ← size, ← c.sizes.invariant.least) least;
    }
