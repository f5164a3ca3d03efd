use Rattle.fz_regular.proofs.Layers.{AreAlike}
use Rattle.fz_regular.proofs.Filling.{AreLeftTo}
use Rattle.fz_regular.proofs.supports.symbols_of.Given as goal

-- the rows so far have the symbols that are left
abbrev pub invariant-loop-place : goal.invariant-loop-place
invariant-loop-place l = record {
  alike : AreAlike l.initial.values l.values;
  left : AreLeftTo l.terms l.fn.store.doms l.values l.place;
}
