use Rattle.fz_regular.proofs.Layers.{AreAlike, AreSupports}
use Rattle.fz_regular.specs.Layers.{AreEnding}
use Rattle.fz_regular.proofs.backward.retreat.Given as goal

-- it is done from this place on
abbrev pub invariant-loop-place : goal.invariant-loop-place
invariant-loop-place l = record {
  alike : AreAlike l.initial.layers l.layers;
  alike_supports : AreAlike l.initial.supports l.supports;
  ending : AreEnding l.automaton l.values l.fn.places l.place l.layers;
  supports : AreSupports l.automaton l.values l.fn.places l.place l.supports;
}
