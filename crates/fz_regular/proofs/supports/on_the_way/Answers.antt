use Rattle.std.proofs.Common.{arith, length}
use Rattle.fz_regular.specs.BitRows.{Has}
use Rattle.fz_regular.proofs.Filling.{fits_states}
use Rattle.fz_regular.proofs.Layers.{reached_state, ending_last}
use Rattle.fz_regular.proofs.supports.on_the_way.Goals as goal

pub reach-requires-clause-states : goal.reach-requires-clause-states
reach-requires-clause-states c = fits_states c.args.automaton.now c.in_ok-layers.layers c.states.result c.in_ok-layers.ensures.width c.states.ensures.states

pub keep_accepting-requires-clause-states : goal.keep_accepting-requires-clause-states
keep_accepting-requires-clause-states c = λ p has.
    reached_state c.args.automaton.now (Has c.args.values.now) (length c.args.terms.now) p ((c.reach.ensures.reached (length c.args.terms.now) p (omega arith)).0 has)

pub retreat-requires-clause-states : goal.retreat-requires-clause-states
retreat-requires-clause-states c =
    ending_last c.args.automaton.now c.args.values.now c.reach.new.layers c.keep_accepting.new.layers (length c.args.terms.now) c.reach.ensures.reached c.keep_accepting.ensures.states
