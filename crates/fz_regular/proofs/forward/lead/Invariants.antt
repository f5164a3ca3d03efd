use Rattle.std.proofs.Common.{◌-◌, ◌*◌}
use Rattle.fz_regular.specs.BitRows.{Has}
use Rattle.fz_regular.specs.Layers.{LeadsAt}
use Rattle.fz_regular.specs.Runs.{LeadsBy}
use Rattle.fz_regular.proofs.Gathering.{Gathered}
use Rattle.fz_regular.proofs.Layers.{AreAlike}
use Rattle.fz_regular.proofs.forward.lead.Given as goal

-- the states to which the symbols so far lead are added
abbrev pub invariant-symbols : goal.invariant-symbols
invariant-symbols l = record {
  alike : AreAlike l.initial.layers l.layers;
  gathered : Gathered (LeadsBy l.automaton l.values l.place l.state) l.from (λ k i r. LeadsAt l.automaton l.after l.state k i r) (Has l.initial.layers) (Has l.layers);
}

abbrev pub decreases-symbols : goal.decreases-symbols
decreases-symbols l = l.values.width * 64 - l.from
