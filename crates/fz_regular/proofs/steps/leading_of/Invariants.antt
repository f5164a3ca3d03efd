use Rattle.fz_regular.specs.Runs.{automaton_of}
use Rattle.fz_regular.proofs.Layers.{AreAlike}
use Rattle.fz_regular.proofs.Leading.{AreLeadingTo}
use Rattle.fz_regular.proofs.steps.leading_of.Given as goal

-- in the rows so far are the symbols that lead somewhere
abbrev pub invariant-loop-state : goal.invariant-loop-state
invariant-loop-state l = record {
  alike : AreAlike l.initial.leading l.leading;
  leading : AreLeadingTo (automaton_of l.states l.symbols l.next) l.state l.leading;
}
