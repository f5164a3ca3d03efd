use Rattle.fz_strength.specs.Domains.{room}
use Rattle.fz_prop.specs.Answers.{IsCorrectOf}
use Rattle.fz_prop.specs.Stores.{Shrinks}
use Rattle.fz_linear.specs.Sums.{SumTruth}
use Rattle.fz_linear.proofs.relate.relate_to_rest.Given as goal

-- what ran so far
abbrev pub invariant-runs : goal.invariant-runs
invariant-runs l = record {
  shrinks : Shrinks l.initial.store l.store;
  correct : IsCorrectOf (SumTruth l.relation l.sum.factors.now l.sum.terms.now l.number) l.initial.store.doms l.store.doms;
}

abbrev pub decreases-runs : goal.decreases-runs
decreases-runs l = room l.store.doms
