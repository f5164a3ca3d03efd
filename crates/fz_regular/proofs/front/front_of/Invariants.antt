use Rattle.fz_spec.specs.Truth.{IsState}
use Rattle.fz_regular.specs.Fronts.{IsFront}
use Rattle.fz_regular.specs.Runs.{number}
use Rattle.fz_regular.proofs.front.front_of.Given as goal

-- the terms before this place are fixed and lead to the state
abbrev pub invariant-loop-places : goal.invariant-loop-places
invariant-loop-places l = record {
  front : IsFront l.automaton l.terms l.store.doms l.places l.automaton.start (number l.state);
  state : IsState l.automaton (number l.state);
}
