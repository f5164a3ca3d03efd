use Rattle.std.proofs.Common.{◌≡◌, pos}
use Rattle.fz_sets.specs.Sets.{IsInRange}
use Rattle.fz_regular.specs.BitRows.{Has}
use Rattle.fz_regular.specs.Runs.{LeadsOn, automaton_of, number}
use Rattle.fz_regular.proofs.Gathering.{Gathered}
use Rattle.fz_regular.proofs.Layers.{AreAlike}
use Rattle.fz_regular.proofs.steps.add_row.Given as goal

-- the symbols so far that lead somewhere are added
abbrev pub invariant-loop-symbol : goal.invariant-loop-symbol
invariant-loop-symbol l = record {
  alike : AreAlike l.fn.leading l.leading;
  gathered : Gathered (λ k. IsInRange (pos 1, l.symbols) (number k)) l.symbol (λ s i k. (i ≡ l.state) × (k ≡ s) × LeadsOn (automaton_of l.states l.symbols l.next) l.state s) (Has l.fn.leading) (Has l.leading);
}
