use Rattle.std.specs.Prelude.{◌↔◌}
use Rattle.fz_spec.specs.Constraints.{term_values}
use Rattle.fz_spec.specs.Truth.{IsAccepted}
use Rattle.fz_truth.specs.Automata.{automaton_of}
use Rattle.fz_truth.proofs.RunLaws.{RunsBehind}
use Rattle.fz_truth.proofs.automaton.is_accepted.Given as goal

-- there is a run over all where there is one over those from here on
abbrev pub invariant-loop-term : goal.invariant-loop-term
invariant-loop-term l = IsAccepted (automaton_of l.automaton l.start) (term_values l.values l.terms) ↔ RunsBehind (automaton_of l.automaton l.start) l.state l.values l.terms l.term-index
