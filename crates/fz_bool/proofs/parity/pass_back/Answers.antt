use Rattle.std.proofs.Common.{◌≡◌, ◌+◌, ◌-◌, ◌≤◌, length, get_or, arith, refl, subst}
use Rattle.std.specs.Prelude.{pos}
use Rattle.fz_sets.proofs.Lists.{all_at}
use Rattle.fz_spec.specs.declared.term.Term.TheVariants.{Num}
use Rattle.fz_strength.specs.Clauses.{IsTrueIn, IsUntrueIn}
use Rattle.fz_prop.specs.Told.{AreEndsOdd}
use Rattle.fz_strength.specs.Domains.{IsTermOf}
use Rattle.fz_bool.specs.Looks.{IsOpen}
use Rattle.fz_bool.proofs.Odd.{at_place}
use Rattle.fz_bool.proofs.Ends.{back_true, back_false, open_at}
use Rattle.fz_bool.proofs.parity.pass_back.Goals.{in-True, in-False}
use Rattle.fz_bool.proofs.parity.pass_back.Goals as goal

pub loop-passed-preserved : goal.loop-passed-preserved
loop-passed-preserved c =
    let ts = c.args.terms.now in
    let ds = c.args.store.now.doms in
    let n = c.loop-passed.passed in
    let kept = c.loop-passed.ends in
    let so_far = c.loop-passed.invariant in
    let inside : kept.front + n + 1 ≤ length ts = omega (arith, c.loop-passed-test.true, c.saturating_sub-passed-end.ensures, c.count_of.ensures, so_far.other) in
    let place = length ts - 1 - n in
    let t = get_or ts place (Num (pos 0)) in
    let at = at_place ts place (omega (arith, inside)) in
    let is = all_at (IsTermOf (length ds)) ts place t c.requires.terms at in
    let told : AreEndsOdd ts kept.front n kept.number ds = rw so_far.here at so_far.told in
    let here : place + 1 + n ≡ length ts = omega (arith, inside) in
    elim c.match-state_of.branch [
      | in-True w ↦
          rw (w.ends-is, w.turned-ends.ensures)
          (record { told = back_true ts kept.front n place kept.number t ds at is here inside (subst (IsTrueIn ds) c.positive.ensures w.in-True.ensures) told; here = refl; other = so_far.other })
      | in-False w ↦
          rw (w.ends-is)
          (record { told = back_false ts kept.front n place kept.number t ds at is here inside (subst (IsUntrueIn ds) c.positive.ensures w.in-False.ensures) told; here = refl; other = so_far.other })
    ]

pub returns-in-Open-clause-stop : goal.returns-in-Open-clause-stop
returns-in-Open-clause-stop c = λ stops.
    let ts = c.args.terms.now in
    let place = (length c.args.terms.now - 1 - c.loop-passed.passed) in
    rw c.loop-passed.invariant.here
    (open_at c.args.store.now.doms ts place (get_or ts place (Num (pos 0))) (at_place ts place (omega (arith, c.loop-passed-test.true, c.saturating_sub-passed-end.ensures, c.count_of.ensures)))
    (subst (IsOpen c.args.store.now.doms) c.positive.ensures c.in-Open.ensures))
