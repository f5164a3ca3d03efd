use Rattle.fz_regular.proofs.Layers.{AreAlike, AreReachedTo}
use Rattle.fz_regular.proofs.forward.reach.Given as goal

-- the states before the places so far are reached
abbrev pub invariant-loop-place : goal.invariant-loop-place
invariant-loop-place l = record {
  alike : AreAlike l.fn.layers l.layers;
  reached : AreReachedTo l.automaton l.values l.place l.layers;
}
