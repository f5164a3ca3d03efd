use Rattle.std.proofs.Common.{◌-◌, ◌*◌}
use Rattle.fz_regular.specs.BitRows.{Has}
use Rattle.fz_regular.specs.Layers.{Leads, SupportsAt}
use Rattle.fz_regular.proofs.Gathering.{Gathered, Filtered}
use Rattle.fz_regular.proofs.Layers.{AreAlike}
use Rattle.fz_regular.proofs.backward.keep_ending.Given as goal

-- of the states so far those are left from which a symbol leads to a state, and these symbols are added
abbrev pub invariant-states : goal.invariant-states
invariant-states l = record {
  alike : AreAlike l.initial.layers l.layers;
  alike_supports : AreAlike l.initial.supports l.supports;
  filtered : Filtered l.place l.from (λ p. Leads l.automaton l.values l.initial.layers l.place l.after p) (Has l.initial.layers) (Has l.layers);
  gathered : Gathered (Has l.initial.layers l.place) l.from (λ p i k. SupportsAt l.automaton l.values l.initial.layers l.place l.after p i k) (Has l.initial.supports) (Has l.supports);
}

abbrev pub decreases-states : goal.decreases-states
decreases-states l = l.layers.width * 64 - l.from
