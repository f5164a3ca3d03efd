use Rattle.std.proofs.Common.{arith, get_or, pos, subst, to_z, of_z, w32}
use Rattle.std.specs.Prelude.{ℤ, List}
use Rattle.std.proofs.Math.Facts.{to_z-of_z}
use Rattle.std.proofs.lemmas.Option.{slice_get-get_or}
use Rattle.fz_dom.specs.declared.change.Change.TheVariants.{Wiped}
use Rattle.fz_spec.specs.declared.term.Term.{Term}
use Rattle.fz_spec.specs.declared.term.Term.TheVariants.{Num}
use Rattle.fz_strength.specs.Counts.{IsDecided}
use Rattle.fz_prop.specs.Answers.{IsCorrectOf}
use Rattle.fz_prop.specs.Outcomes.{IsOutcome}
use Rattle.fz_prop.proofs.Keeping.{correct_more, kept_wiped}
use Rattle.fz_prop.proofs.Twice.{shrinks_twice}
use Rattle.fz_counts.specs.Counting.{Goes, AllGo}
use Rattle.fz_counts.proofs.Settling.{goes_at, settling_none, settling_same, settling_changed, settled_all}
use Rattle.fz_counts.proofs.places.settle.Goals.{in-Changed, in-Same}
use Rattle.fz_counts.proofs.places.settle.Goals as goal

pub loop-term-init : goal.loop-term-init
loop-term-init c = settling_none c.args.choice (to_z w32 (of_z w32 c.args.value)) c.args.terms.now c.args.store.now

pub returns-in_err-settle_one-clause-shrinks : goal.returns-in_err-settle_one-clause-shrinks
returns-in_err-settle_one-clause-shrinks c = shrinks_twice c.args.store.now c.loop-term.store c.settle_one.new.store c.loop-term.invariant.kept.shrinks c.settle_one.ensures.shrinks

pub returns-in_err-settle_one-clause-correct : goal.returns-in_err-settle_one-clause-correct
returns-in_err-settle_one-clause-correct c =
    let choice = c.args.choice in
    let value : ℤ = to_z w32 (of_z w32 c.args.value) in
    let xs = c.args.terms.now in
    let r = c.args.store.now in
    let s = c.loop-term.store in
    let t = c.settle_one.new.store in
    let k = c.loop-term.term-index in
    let x : Term = get_or xs k (Num (pos 0)) in
    let at = slice_get-get_or xs k (Num (pos 0)) c.loop-term-test.true in
    subst (λ (n : ℤ). IsCorrectOf (AllGo choice n xs r.doms) r.doms t.doms) (to_z-of_z c.ranges.value)
    (correct_more (AllGo choice value xs r.doms) (λ (a : List ℤ). Goes choice value s.doms a x) r s t c.loop-term.invariant.kept.correct
    (goes_at choice value xs r s k x c.requires c.doms.ensures.store.domains c.loop-term.invariant.kept.shrinks.narrower at) c.settle_one.ensures.correct)

pub returns-in-Wiped-clause-shrinks : goal.returns-in-Wiped-clause-shrinks
returns-in-Wiped-clause-shrinks c = shrinks_twice c.args.store.now c.loop-term.store c.settle_one.new.store c.loop-term.invariant.kept.shrinks c.settle_one.ensures.shrinks

pub returns-in-Wiped-clause-correct : goal.returns-in-Wiped-clause-correct
returns-in-Wiped-clause-correct c =
    let choice = c.args.choice in
    let value : ℤ = to_z w32 (of_z w32 c.args.value) in
    let xs = c.args.terms.now in
    let r = c.args.store.now in
    let s = c.loop-term.store in
    let t = c.settle_one.new.store in
    let k = c.loop-term.term-index in
    let x : Term = get_or xs k (Num (pos 0)) in
    let at = slice_get-get_or xs k (Num (pos 0)) c.loop-term-test.true in
    subst (λ (n : ℤ). IsCorrectOf (AllGo choice n xs r.doms) r.doms t.doms) (to_z-of_z c.ranges.value)
    (correct_more (AllGo choice value xs r.doms) (λ (a : List ℤ). Goes choice value s.doms a x) r s t c.loop-term.invariant.kept.correct
    (goes_at choice value xs r s k x c.requires c.doms.ensures.store.domains c.loop-term.invariant.kept.shrinks.narrower at) c.settle_one.ensures.correct)

pub returns-in-Wiped-clause-outcome : goal.returns-in-Wiped-clause-outcome
returns-in-Wiped-clause-outcome c =
    let choice = c.args.choice in
    let value : ℤ = to_z w32 (of_z w32 c.args.value) in
    let xs = c.args.terms.now in
    let r = c.args.store.now in
    let s = c.loop-term.store in
    let t = c.settle_one.new.store in
    let k = c.loop-term.term-index in
    let x : Term = get_or xs k (Num (pos 0)) in
    let at = slice_get-get_or xs k (Num (pos 0)) c.loop-term-test.true in
    subst (λ (n : ℤ). IsOutcome Wiped (AllGo choice n xs r.doms) r t) (to_z-of_z c.ranges.value)
    (kept_wiped (AllGo choice value xs r.doms) (λ (a : List ℤ). Goes choice value s.doms a x) r s t t c.loop-term.has_changed c.loop-term.invariant.kept
    (goes_at choice value xs r s k x c.requires c.doms.ensures.store.domains c.loop-term.invariant.kept.shrinks.narrower at)
    (rw c.in-Wiped.is at c.in_ok-settle_one.ensures.outcome))

pub loop-term-preserved : goal.loop-term-preserved
loop-term-preserved c =
    let choice = c.args.choice in
    let value : ℤ = to_z w32 (of_z w32 c.args.value) in
    let xs = c.args.terms.now in
    let r = c.args.store.now in
    let s = c.loop-term.store in
    let t = c.settle_one.new.store in
    let k = c.loop-term.term-index in
    let x : Term = get_or xs k (Num (pos 0)) in
    let at = slice_get-get_or xs k (Num (pos 0)) c.loop-term-test.true in
    elim c.match-branch-2.branch [
      | in-Changed w ↦
          rw w.has_changed-is
          (settling_changed choice value xs r s t c.loop-term.has_changed k x c.requires c.doms.ensures.store.domains at c.in_ok-settle_one.ensures.shrinks c.in_ok-settle_one.ensures.correct
          (rw w.in-Changed.is at c.in_ok-settle_one.ensures.outcome) c.loop-term.invariant)
      | in-Same w ↦
          rw w.has_changed-is
          (settling_same choice value xs r s t c.loop-term.has_changed k (Num (pos 0)) c.loop-term-test.true (rw w.in-Same.is at c.in_ok-settle_one.ensures.outcome)
          (c.in_ok-settle_one.ensures.settled w.in-Same.is) c.loop-term.invariant)
    ]

pub returns-else-has_changed-clause-decided : goal.returns-else-has_changed-clause-decided
returns-else-has_changed-clause-decided c = λ same.
    let end = c.loop-term-test.false in
    let xs = c.args.terms.now in
    let s = c.loop-term.store in
    subst (λ (n : ℤ). IsDecided xs s.doms n) (to_z-of_z c.ranges.value)
    (settled_all (to_z w32 (of_z w32 c.args.value)) xs s.doms c.loop-term.term-index (omega (arith, end)) (c.loop-term.invariant.settled c.if-has_changed.false))
