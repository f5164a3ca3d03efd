use Rattle.std.proofs.Common.{get_or, pos}
use Rattle.std.specs.Prelude.{List, ℤ}
use Rattle.std.proofs.lemmas.Option.{slice_get-get_or}
use Rattle.fz_spec.specs.declared.term.Term.{Term}
use Rattle.fz_spec.specs.declared.term.Term.TheVariants.{Num}
use Rattle.fz_prop.proofs.Keeping.{correct_more, kept_same, kept_changed, kept_wiped}
use Rattle.fz_prop.proofs.Twice.{shrinks_twice}
use Rattle.fz_counts.specs.Covers.{AllSide, Sides}
use Rattle.fz_counts.proofs.Nearing.{sides_at}
use Rattle.fz_counts.proofs.mixed.settle_mixed.Goals.{in-Changed, in-Same}
use Rattle.fz_counts.proofs.mixed.settle_mixed.Goals as goal

pub returns-in_err-settle_one-clause-shrinks : goal.returns-in_err-settle_one-clause-shrinks
returns-in_err-settle_one-clause-shrinks c = shrinks_twice c.args.store.now c.loop-term.store c.settle_one.new.store c.loop-term.invariant.shrinks c.settle_one.ensures.shrinks

pub returns-in_err-settle_one-clause-correct : goal.returns-in_err-settle_one-clause-correct
returns-in_err-settle_one-clause-correct c =
    let choice = c.args.choice in
    let cover = c.args.cover in
    let xs = c.args.terms.now in
    let r = c.args.store.now in
    let s = c.loop-term.store in
    let k = c.loop-term.term-index in
    let x : Term = get_or xs k (Num (pos 0)) in
    let at = slice_get-get_or xs k (Num (pos 0)) c.loop-term-test.true in
    correct_more (AllSide choice cover xs r.doms) (λ (a : List ℤ). Sides choice cover s.doms a x) r s c.settle_one.new.store c.loop-term.invariant.correct
    (sides_at choice cover xs r s k x c.loop-term.invariant.shrinks.narrower at) c.settle_one.ensures.correct

pub returns-in-Wiped-clause-shrinks : goal.returns-in-Wiped-clause-shrinks
returns-in-Wiped-clause-shrinks c = shrinks_twice c.args.store.now c.loop-term.store c.settle_one.new.store c.loop-term.invariant.shrinks c.settle_one.ensures.shrinks

pub returns-in-Wiped-clause-correct : goal.returns-in-Wiped-clause-correct
returns-in-Wiped-clause-correct c =
    let choice = c.args.choice in
    let cover = c.args.cover in
    let xs = c.args.terms.now in
    let r = c.args.store.now in
    let s = c.loop-term.store in
    let k = c.loop-term.term-index in
    let x : Term = get_or xs k (Num (pos 0)) in
    let at = slice_get-get_or xs k (Num (pos 0)) c.loop-term-test.true in
    correct_more (AllSide choice cover xs r.doms) (λ (a : List ℤ). Sides choice cover s.doms a x) r s c.settle_one.new.store c.loop-term.invariant.correct
    (sides_at choice cover xs r s k x c.loop-term.invariant.shrinks.narrower at) c.settle_one.ensures.correct

pub returns-in-Wiped-clause-outcome : goal.returns-in-Wiped-clause-outcome
returns-in-Wiped-clause-outcome c =
    let choice = c.args.choice in
    let cover = c.args.cover in
    let xs = c.args.terms.now in
    let r = c.args.store.now in
    let s = c.loop-term.store in
    let t = c.settle_one.new.store in
    let k = c.loop-term.term-index in
    let x : Term = get_or xs k (Num (pos 0)) in
    let at = slice_get-get_or xs k (Num (pos 0)) c.loop-term-test.true in
    kept_wiped (AllSide choice cover xs r.doms) (λ (a : List ℤ). Sides choice cover s.doms a x) r s t t c.loop-term.has_changed c.loop-term.invariant
    (sides_at choice cover xs r s k x c.loop-term.invariant.shrinks.narrower at) (rw c.in-Wiped.is at c.in_ok-settle_one.ensures.outcome)

pub loop-term-preserved : goal.loop-term-preserved
loop-term-preserved c =
    let choice = c.args.choice in
    let cover = c.args.cover in
    let xs = c.args.terms.now in
    let r = c.args.store.now in
    let s = c.loop-term.store in
    let t = c.settle_one.new.store in
    let k = c.loop-term.term-index in
    let x : Term = get_or xs k (Num (pos 0)) in
    let at = slice_get-get_or xs k (Num (pos 0)) c.loop-term-test.true in
    let T : List ℤ → Type 0 = AllSide choice cover xs r.doms in
    let P : List ℤ → Type 0 = λ a. Sides choice cover s.doms a x in
    elim c.match-branch-2.branch [
      | in-Changed w ↦
          rw w.has_changed-is
          (kept_changed T P r s t c.loop-term.has_changed c.loop-term.invariant (sides_at choice cover xs r s k x c.loop-term.invariant.shrinks.narrower at) c.in_ok-settle_one.ensures.shrinks
          c.in_ok-settle_one.ensures.correct (rw w.in-Changed.is at c.in_ok-settle_one.ensures.outcome))
      | in-Same w ↦ rw w.has_changed-is (kept_same T P r s t c.loop-term.has_changed c.loop-term.invariant (rw w.in-Same.is at c.in_ok-settle_one.ensures.outcome))
    ]
