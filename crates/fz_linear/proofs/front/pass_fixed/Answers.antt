use Rattle.std.proofs.Common.{rules, slice_index_or, pos, add-one, arith, refl}
use Rattle.std.proofs.Math.Facts.{to_z-of_z}
use mir.Val.{SFits}
use mir.Syntax.{w32, w64}
use Rattle.fz_spec.specs.declared.term.Term.TheVariants.{Num}
use Rattle.fz_prop.specs.Told.{IsToldSum}
use Rattle.fz_linear.proofs.Summing.{at_place}
use Rattle.fz_linear.proofs.Told.{told_inside, told_more}
use Rattle.fz_linear.proofs.front.pass_fixed.Goals as goal

pub loop-place-preserved : goal.loop-place-preserved
loop-place-preserved c =
    let ks = c.args.factors.now in
    let ts = c.args.terms.now in
    let ds = c.args.store.now.doms in
    let i = c.loop-place.place in
    let n = c.loop-place.kept.number in
    let k = slice_index_or ks i (pos 0) in
    let t = slice_index_or ts i (Num (pos 0)) in
    let here = c.loop-place.invariant.here in
    let inside = told_inside ks ts c.loop-place.kept.front n ds c.loop-place.invariant.told in
    let at = at_place ks ts i c.requires.same (omega (arith, c.requires.same, c.loop-place-test.true)) in
    let fits : SFits w64 c.in-Some.sum = search rules in
    let fits_factor : SFits w32 k = search rules in
    let fits_sum : SFits w64 n = search rules in
    let more = rw (to_z-of_z fits_factor, to_z-of_z fits_sum) at c.in-Some.ensures in
    let told : IsToldSum ks ts i n ds = rw here at c.loop-place.invariant.told in
    rw (to_z-of_z fits, here, add-one i) (record { told = told_more ks ts i n c.in-Some.sum k more.0 t ds at more.1 more.2 told; here = refl })
