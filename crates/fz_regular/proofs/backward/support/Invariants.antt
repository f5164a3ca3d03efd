use Rattle.std.proofs.Common.{◌≡◌, ◌-◌, ◌*◌}
use Rattle.fz_regular.specs.BitRows.{Has}
use Rattle.fz_regular.specs.Layers.{LeadsIn}
use Rattle.fz_regular.specs.Runs.{LeadsBy}
use Rattle.fz_regular.proofs.Gathering.{Gathered, Found}
use Rattle.fz_regular.proofs.Layers.{AreAlike}
use Rattle.fz_regular.proofs.backward.support.Given as goal

-- the symbols so far that lead to a state are added
abbrev pub invariant-symbols : goal.invariant-symbols
invariant-symbols l = record {
  alike : AreAlike l.initial.supports l.supports;
  gathered : Gathered (LeadsBy l.automaton l.values l.place l.state) l.from (λ s i k. (i ≡ l.place) × (k ≡ s) × LeadsIn l.automaton l.layers l.after l.state s) (Has l.initial.supports) (Has l.supports);
  found : Found (λ k. LeadsBy l.automaton l.values l.place l.state k × LeadsIn l.automaton l.layers l.after l.state k) l.from l.some;
}

abbrev pub decreases-symbols : goal.decreases-symbols
decreases-symbols l = l.values.width * 64 - l.from
