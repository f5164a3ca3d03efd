use Rattle.fz_spec.specs.declared.shape.Relation.TheVariants.{AtMost}
use Rattle.fz_strength.specs.Domains.{room}
use Rattle.fz_prop.specs.Answers.{IsCorrectOf}
use Rattle.fz_prop.specs.Stores.{Shrinks}
use Rattle.fz_linreif.specs.ReifiedLinears.{SaidTruth}
use Rattle.fz_linreif.proofs.follow.order_as.Given as goal

-- what ran so far
abbrev pub invariant-runs : goal.invariant-runs
invariant-runs l = record {
  shrinks : Shrinks l.initial.store l.store;
  correct : IsCorrectOf (SaidTruth l.said AtMost l.sum.factors.now l.sum.terms.now l.number) l.initial.store.doms l.store.doms;
}

abbrev pub decreases-runs : goal.decreases-runs
decreases-runs l = room l.store.doms
