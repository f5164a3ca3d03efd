use Rattle.std.proofs.Common.{List, get_or}
use Rattle.std.specs.Prelude.{ℤ, pos}
use Rattle.std.proofs.lemmas.Option.{slice_get-get_or}
use Rattle.fz_dom.specs.declared.change.Change.TheVariants.{Wiped}
use Rattle.fz_spec.specs.declared.term.Term.{Term}
use Rattle.fz_spec.specs.declared.term.Term.TheVariants.{Num}
use Rattle.fz_prop.specs.Outcomes.{IsOutcome}
use Rattle.fz_prop.proofs.Keeping.{kept_none, correct_more, kept_changed, kept_wiped, changed_of}
use Rattle.fz_prop.proofs.Twice.{shrinks_twice}
use Rattle.fz_hall.specs.Intervals.{IsKeptOut}
use Rattle.fz_hall.proofs.Outside.{IsGiven, given_correct, given_outcome, given_out}
use Rattle.fz_hall.proofs.narrow.keep_others.Goals as goal

pub returns-in_err-change-clause-shrinks : goal.returns-in_err-change-clause-shrinks
returns-in_err-change-clause-shrinks c = shrinks_twice c.args.store.now c.loop-term.store c.keep_out.new.store c.loop-term.invariant.kept.shrinks c.keep_out.ensures.shrinks

pub returns-in-Wiped-clause-shrinks : goal.returns-in-Wiped-clause-shrinks
returns-in-Wiped-clause-shrinks c = shrinks_twice c.args.store.now c.loop-term.store c.keep_out.new.store c.loop-term.invariant.kept.shrinks c.keep_out.ensures.shrinks

pub returns-in_err-change-clause-correct : goal.returns-in_err-change-clause-correct
returns-in_err-change-clause-correct c =
    let r = c.args.store.now in
    let s = c.loop-term.store in
    let t = c.keep_out.new.store in
    let xs = c.args.terms.now in
    let x : Term = get_or xs c.loop-term.term-index (Num (pos 0)) in
    let at = slice_get-get_or xs c.loop-term.term-index (Num (pos 0)) c.loop-term-test.true in
    let P : List ℤ → Type 0 = IsKeptOut s.doms x c.args.interval.low c.args.interval.high in
    let needs : (a : List ℤ) → IsGiven xs r a → P a =
    given_out r s c.args.interval.low c.args.interval.high xs c.loop-term.term-index x c.requires.terms c.doms.ensures.store.domains c.doms-in-loop-term.ensures.store.domains c.loop-term.invariant.kept.shrinks.narrower c.requires.full at in
    given_correct xs r t (correct_more (IsGiven xs r) P r s t c.loop-term.invariant.kept.correct needs c.keep_out.ensures.correct)

pub returns-in-Wiped-clause-correct : goal.returns-in-Wiped-clause-correct
returns-in-Wiped-clause-correct c =
    let r = c.args.store.now in
    let s = c.loop-term.store in
    let t = c.keep_out.new.store in
    let xs = c.args.terms.now in
    let x : Term = get_or xs c.loop-term.term-index (Num (pos 0)) in
    let at = slice_get-get_or xs c.loop-term.term-index (Num (pos 0)) c.loop-term-test.true in
    let P : List ℤ → Type 0 = IsKeptOut s.doms x c.args.interval.low c.args.interval.high in
    let needs : (a : List ℤ) → IsGiven xs r a → P a =
    given_out r s c.args.interval.low c.args.interval.high xs c.loop-term.term-index x c.requires.terms c.doms.ensures.store.domains c.doms-in-loop-term.ensures.store.domains c.loop-term.invariant.kept.shrinks.narrower c.requires.full at in
    given_correct xs r t (correct_more (IsGiven xs r) P r s t c.loop-term.invariant.kept.correct needs c.keep_out.ensures.correct)

pub returns-in-Wiped-clause-outcome : goal.returns-in-Wiped-clause-outcome
returns-in-Wiped-clause-outcome c =
    let r = c.args.store.now in
    let s = c.loop-term.store in
    let t = c.keep_out.new.store in
    let xs = c.args.terms.now in
    let x : Term = get_or xs c.loop-term.term-index (Num (pos 0)) in
    let at = slice_get-get_or xs c.loop-term.term-index (Num (pos 0)) c.loop-term-test.true in
    let P : List ℤ → Type 0 = IsKeptOut s.doms x c.args.interval.low c.args.interval.high in
    let needs : (a : List ℤ) → IsGiven xs r a → P a =
    given_out r s c.args.interval.low c.args.interval.high xs c.loop-term.term-index x c.requires.terms c.doms.ensures.store.domains c.doms-in-loop-term.ensures.store.domains c.loop-term.invariant.kept.shrinks.narrower c.requires.full at in
    let none : IsOutcome Wiped P s t = rw c.in-Wiped.is at c.in_ok-change.ensures.outcome in
    given_outcome Wiped xs r t (kept_wiped (IsGiven xs r) P r s t t c.loop-term.has_changed c.loop-term.invariant.kept needs none)

pub loop-term-init : goal.loop-term-init
loop-term-init c = record { kept = kept_none (IsGiven c.args.terms.now c.args.store.now) c.args.store.now; clear = λ e. tt }

pub loop-term-preserved : goal.loop-term-preserved
loop-term-preserved c =
    let r = c.args.store.now in
    let s = c.loop-term.store in
    let t = c.keep_out.new.store in
    let xs = c.args.terms.now in
    let x : Term = get_or xs c.loop-term.term-index (Num (pos 0)) in
    let at = slice_get-get_or xs c.loop-term.term-index (Num (pos 0)) c.loop-term-test.true in
    let P : List ℤ → Type 0 = IsKeptOut s.doms x c.args.interval.low c.args.interval.high in
    let needs : (a : List ℤ) → IsGiven xs r a → P a =
    given_out r s c.args.interval.low c.args.interval.high xs c.loop-term.term-index x c.requires.terms c.doms.ensures.store.domains c.doms-in-loop-term.ensures.store.domains c.loop-term.invariant.kept.shrinks.narrower c.requires.full at in
    record {
      kept = kept_changed (IsGiven xs r) P r s t c.loop-term.has_changed c.loop-term.invariant.kept needs c.keep_out.ensures.shrinks c.keep_out.ensures.correct
          (changed_of c.in_ok-change.change P s t c.in_default.not-Wiped c.in_default-change.not-Same c.in_ok-change.ensures.outcome);
      clear = λ e. absurd (cc (e));
    }

pub returns-then-has_changed-clause-correct : goal.returns-then-has_changed-clause-correct
returns-then-has_changed-clause-correct c = given_correct c.args.terms.now c.args.store.now c.loop-term.store c.loop-term.invariant.kept.correct

pub returns-else-has_changed-clause-correct : goal.returns-else-has_changed-clause-correct
returns-else-has_changed-clause-correct c = given_correct c.args.terms.now c.args.store.now c.loop-term.store c.loop-term.invariant.kept.correct
