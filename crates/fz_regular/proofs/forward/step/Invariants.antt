use Rattle.std.proofs.Common.{◌-◌, ◌*◌}
use Rattle.fz_regular.specs.BitRows.{Has}
use Rattle.fz_regular.specs.Layers.{LedAt}
use Rattle.fz_regular.proofs.Gathering.{Gathered}
use Rattle.fz_regular.proofs.Layers.{AreAlike}
use Rattle.fz_regular.proofs.forward.step.Given as goal

-- the states to which the symbols lead from the states so far are added
abbrev pub invariant-states : goal.invariant-states
invariant-states l = record {
  alike : AreAlike l.initial.layers l.layers;
  gathered : Gathered (Has l.initial.layers l.place) l.from (λ p i r. LedAt l.automaton l.values l.place l.after p i r) (Has l.initial.layers) (Has l.layers);
}

abbrev pub decreases-states : goal.decreases-states
decreases-states l = l.layers.width * 64 - l.from
