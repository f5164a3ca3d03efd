-- Terms at the front that are fixed, and the state behind them.
use Rattle.std.specs.Prelude.{◌≡◌, ℕ, zero, suc, ℤ, List, [], ◌∷◌}
use Rattle.fz_spec.specs.declared.term.Term.{Term}
use Rattle.fz_spec.specs.Truth.{Automaton, IsState, IsStep}
use Rattle.fz_strength.specs.Domains.{term_set}
use Rattle.fz_strength.specs.Events.{IsOnly}

-- an automaton that starts in another state
abbrev pub started : Automaton → ℤ → Automaton
started automaton start = record {
  states = automaton.states;
  symbols = automaton.symbols;
  next = automaton.next;
  start = start;
  accepting = automaton.accepting;
}

-- That many terms at the front are fixed, and by their numbers one state leads to another.
abbrev pub IsFront : Automaton → List Term → List (List (ℤ × ℤ)) → ℕ → ℤ → ℤ → Type 0
IsFront automaton xs ds zero from to = from ≡ to
IsFront automaton [] ds (suc front) from to = ⊥
IsFront automaton (x ∷ xs) ds (suc front) from to = (n : ℤ) × (next : ℤ) × IsOnly (term_set ds x) n × IsState automaton from × IsStep automaton from n next × IsFront automaton xs ds front next to
