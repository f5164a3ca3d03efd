use Rattle.std.proofs.Common.{List}
use Rattle.std.specs.Prelude.{ℤ}
use Rattle.fz_dom.specs.declared.change.Change.TheVariants.{Wiped}
use Rattle.fz_prop.specs.Outcomes.{IsOutcome}
use Rattle.fz_prop.proofs.Keeping.{correct_more, kept_changed, kept_wiped, changed_of}
use Rattle.fz_prop.proofs.Twice.{shrinks_twice}
use Rattle.fz_alldiff.specs.Differing.{IsDifferent}
use Rattle.fz_hall.proofs.narrow.keep_each.Goals as goal

pub returns-in_err-change-clause-shrinks : goal.returns-in_err-change-clause-shrinks
returns-in_err-change-clause-shrinks c = shrinks_twice c.args.store.now c.loop-left.store c.keep_interval.new.store c.loop-left.invariant.shrinks c.keep_interval.ensures.shrinks

pub returns-in-Wiped-clause-shrinks : goal.returns-in-Wiped-clause-shrinks
returns-in-Wiped-clause-shrinks c = shrinks_twice c.args.store.now c.loop-left.store c.keep_interval.new.store c.loop-left.invariant.shrinks c.keep_interval.ensures.shrinks

pub returns-in_err-change-clause-correct : goal.returns-in_err-change-clause-correct
returns-in_err-change-clause-correct c =
    let T : List ℤ → Type 0 = IsDifferent c.args.terms.now in
    correct_more T T c.args.store.now c.loop-left.store c.keep_interval.new.store c.loop-left.invariant.correct (λ a h. h) c.keep_interval.ensures.correct

pub returns-in-Wiped-clause-correct : goal.returns-in-Wiped-clause-correct
returns-in-Wiped-clause-correct c =
    let T : List ℤ → Type 0 = IsDifferent c.args.terms.now in
    correct_more T T c.args.store.now c.loop-left.store c.keep_interval.new.store c.loop-left.invariant.correct (λ a h. h) c.keep_interval.ensures.correct

pub returns-in-Wiped-clause-outcome : goal.returns-in-Wiped-clause-outcome
returns-in-Wiped-clause-outcome c =
    let T : List ℤ → Type 0 = IsDifferent c.args.terms.now in
    let none : IsOutcome Wiped T c.loop-left.store c.keep_interval.new.store = rw c.in-Wiped.is at c.in_ok-change.ensures.outcome in
    kept_wiped T T c.args.store.now c.loop-left.store c.keep_interval.new.store c.keep_interval.new.store c.loop-left.has_changed c.loop-left.invariant (λ a h. h) none

pub loop-left-preserved : goal.loop-left-preserved
loop-left-preserved c =
    let T : List ℤ → Type 0 = IsDifferent c.args.terms.now in
    kept_changed T T c.args.store.now c.loop-left.store c.keep_interval.new.store c.loop-left.has_changed c.loop-left.invariant (λ a h. h) c.keep_interval.ensures.shrinks c.keep_interval.ensures.correct
    (changed_of c.in_ok-change.change T c.loop-left.store c.keep_interval.new.store c.in_default.not-Wiped c.in_default-change.not-Same c.in_ok-change.ensures.outcome)
