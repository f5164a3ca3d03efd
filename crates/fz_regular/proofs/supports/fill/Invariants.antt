use Rattle.std.proofs.Common.{◌≡◌, ℕ}
use Rattle.std.specs.Prelude.{◌↔◌}
use Rattle.fz_strength.specs.Domains.{term_set}
use Rattle.fz_regular.specs.BitRows.{Has}
use Rattle.fz_regular.proofs.Layers.{AreAlike}
use Rattle.fz_regular.proofs.Filling.{AreFilledTo}
use Rattle.fz_regular.proofs.supports.fill.Given as goal

-- the words so far have the symbols that are left
abbrev pub invariant-loop-place : goal.invariant-loop-place
invariant-loop-place l = record {
  alike : AreAlike l.fn.values l.values;
  filled : AreFilledTo l.values l.row l.place (term_set l.store.doms l.term);
  others : (i k : ℕ) → (i ≡ l.row → ⊥) → Has l.values i k ↔ Has l.fn.values i k;
}
