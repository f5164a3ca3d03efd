-- Automata as the code reads them.
use Rattle.std.specs.Prelude.{ℤ, List}
use Rattle.fz_spec.specs.Constraints.{term_value}
use Rattle.fz_spec.specs.Truth as truth
use Rattle.fz_truth.specs.declared.automaton.Automaton.{Automaton}
use Rattle.fz_truth.specs.declared.automaton.Posted.{Posted}

-- where it starts in this state
abbrev pub automaton_of : Automaton → ℤ → truth.Automaton
automaton_of automaton start = record { states = automaton.states; symbols = automaton.symbols; next = automaton.next.now; start = start; accepting = automaton.accepting.now }

-- of terms, by the values of variables
abbrev pub posted_of : Posted → List ℤ → truth.Automaton
posted_of posted a = record { states = term_value a posted.states; symbols = term_value a posted.symbols; next = posted.next.now; start = term_value a posted.start; accepting = posted.accepting.now.value }
