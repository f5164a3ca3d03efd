use Rattle.fz_strength.specs.Domains.{room}
use Rattle.fz_prop.specs.Answers.{IsCorrectOf}
use Rattle.fz_prop.specs.Stores.{Shrinks}
use Rattle.fz_alldiff.specs.Differing.{IsDifferent}
use Rattle.fz_alldiff.proofs.close.keep_close.Given as goal

-- what was done so far
abbrev pub invariant-rounds : goal.invariant-rounds
invariant-rounds l = record {
  shrinks : Shrinks l.initial.store l.store;
  correct : IsCorrectOf (IsDifferent l.terms) l.initial.store.doms l.store.doms;
}

abbrev pub decreases-rounds : goal.decreases-rounds
decreases-rounds l = room l.store.doms
