use Rattle.std.proofs.Common.{pos, add-one, rules, w32}
use Rattle.std.proofs.Math.Facts.{to_z-of_z}
use Rattle.std.proofs.lemmas.Option.{slice_get-get_or}
use mir.Val.{SFits}
use Rattle.fz_spec.specs.declared.term.Term.TheVariants.{Num}
use Rattle.fz_regular.specs.Runs.{number}
use Rattle.fz_regular.proofs.Fronts.{front_more, front_ends}
use Rattle.fz_regular.proofs.front.front_of.Goals as goal

pub loop-places-init : goal.loop-places-init
loop-places-init c = record { front = c.in-Some.ensures.0; state = c.in-Some.ensures.1 }

pub loop-places-preserved : goal.loop-places-preserved
loop-places-preserved c =
    let m = c.args.automaton.now in
    let xs = c.args.terms.now in
    let i = c.loop-places.places in
    let at = slice_get-get_or xs i (Num (pos 0)) c.loop-places-test.true in
    let value = c.in-Some-value_of.value in
    let fits : SFits w32 value = search rules in
    let step = rw (to_z-of_z fits) at c.in-Some-state_after.ensures in
    rw (add-one i)
    record {
      front = front_more m xs c.args.store.now.doms i m.start (number c.loop-places.state) value (number c.in-Some-state_after.next) _ at c.in-Some-value_of.ensures c.loop-places.invariant.state step.0
          c.loop-places.invariant.front;
      state = step.1;
    }

pub returns-in-None-clause-none : goal.returns-in-None-clause-none
returns-in-None-clause-none c = λ e a within runs.
    let m = c.args.automaton.now in
    let xs = c.args.terms.now in
    let i = c.loop-places.places in
    let at = slice_get-get_or xs i (Num (pos 0)) c.loop-places-test.true in
    let value = c.in-Some-value_of.value in
    let fits : SFits w32 value = search rules in
    front_ends m xs c.args.store.now.doms i m.start (number c.loop-places.state) value _ a c.requires within c.loop-places.invariant.front at c.in-Some-value_of.ensures (rw (to_z-of_z fits) at c.in-None.ensures) runs
