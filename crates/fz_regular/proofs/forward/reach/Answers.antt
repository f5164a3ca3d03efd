use Rattle.fz_regular.specs.BitRows.{Has}
use Rattle.fz_regular.proofs.Layers.{alike_twice, reached_state, reached_more}
use Rattle.fz_regular.proofs.forward.reach.Goals as goal

pub step-requires-clause-states : goal.step-requires-clause-states
step-requires-clause-states c = λ p has.
    reached_state c.args.automaton.now (Has c.args.values.now) c.loop-place.place p ((c.loop-place.invariant.reached c.loop-place.place p).0 has).1

pub loop-place-preserved : goal.loop-place-preserved
loop-place-preserved c =
    let layers = c.loop-place.layers in
    let new = c.step.new.layers in
    record {
      alike = alike_twice c.args.layers.now layers new c.loop-place.invariant.alike (record { width = c.step.ensures.width; size = c.step.ensures.size });
      reached = reached_more c.args.automaton.now c.args.values.now layers new c.loop-place.place c.step.ensures.states c.loop-place.invariant.reached;
    }
