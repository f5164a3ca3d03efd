use Rattle.std.proofs.Common.{◌+◌, ◌≤◌, length, get_or, arith, refl, subst}
use Rattle.std.specs.Prelude.{pos}
use Rattle.fz_sets.proofs.Lists.{all_at}
use Rattle.fz_spec.specs.declared.term.Term.TheVariants.{Num}
use Rattle.fz_strength.specs.Clauses.{IsTrueIn, IsUntrueIn}
use Rattle.fz_prop.specs.Told.{AreEndsOdd}
use Rattle.fz_strength.specs.Domains.{IsTermOf}
use Rattle.fz_bool.specs.Looks.{IsOpen}
use Rattle.fz_bool.proofs.Odd.{at_place}
use Rattle.fz_bool.proofs.Ends.{front_true, front_false, open_at}
use Rattle.fz_bool.proofs.parity.pass_front.Goals.{in-True, in-False}
use Rattle.fz_bool.proofs.parity.pass_front.Goals as goal

pub loop-place-preserved : goal.loop-place-preserved
loop-place-preserved c =
    let ts = c.args.terms.now in
    let ds = c.args.store.now.doms in
    let i = c.loop-place.place in
    let kept = c.loop-place.ends in
    let so_far = c.loop-place.invariant in
    let inside : i + 1 + kept.back ≤ length ts = omega (arith, c.loop-place-test.true, c.saturating_sub-place-end.ensures, c.count_of.ensures, so_far.other) in
    let t = get_or ts i (Num (pos 0)) in
    let at = at_place ts i (omega (arith, inside)) in
    let is = all_at (IsTermOf (length ds)) ts i t c.requires.terms at in
    let told : AreEndsOdd ts i kept.back kept.number ds = rw so_far.here at so_far.told in
    elim c.match-state_of.branch [
      | in-True w ↦
          rw (w.ends-is, w.turned-ends.ensures)
          (record { told = front_true ts i kept.back kept.number t ds at is inside (subst (IsTrueIn ds) c.positive.ensures w.in-True.ensures) told; here = refl; other = so_far.other })
      | in-False w ↦
          rw (w.ends-is)
          (record { told = front_false ts i kept.back kept.number t ds at is inside (subst (IsUntrueIn ds) c.positive.ensures w.in-False.ensures) told; here = refl; other = so_far.other })
    ]

pub returns-in-Open-clause-stop : goal.returns-in-Open-clause-stop
returns-in-Open-clause-stop c = λ stops.
    let ts = c.args.terms.now in
    let place = c.loop-place.place in
    rw c.loop-place.invariant.here
    (open_at c.args.store.now.doms ts place (get_or ts place (Num (pos 0))) (at_place ts place (omega (arith, c.loop-place-test.true, c.saturating_sub-place-end.ensures, c.count_of.ensures)))
    (subst (IsOpen c.args.store.now.doms) c.positive.ensures c.in-Open.ensures))
