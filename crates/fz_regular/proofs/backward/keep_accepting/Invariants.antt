use Rattle.std.proofs.Common.{◌-◌, ◌*◌}
use Rattle.fz_regular.specs.BitRows.{Has}
use Rattle.fz_regular.specs.Runs.{IsAccepting}
use Rattle.fz_regular.proofs.Gathering.{Filtered}
use Rattle.fz_regular.proofs.Layers.{AreAlike}
use Rattle.fz_regular.proofs.backward.keep_accepting.Given as goal

-- of the states so far those are left in which it accepts
abbrev pub invariant-states : goal.invariant-states
invariant-states l = record {
  alike : AreAlike l.initial.layers l.layers;
  filtered : Filtered l.places l.from (λ p. IsAccepting l.automaton p) (Has l.initial.layers) (Has l.layers);
}

abbrev pub decreases-states : goal.decreases-states
decreases-states l = l.layers.width * 64 - l.from
