use Rattle.std.proofs.Common.{ℕ, arith, subst, sym}
use Rattle.std.specs.List.{AllByRecursion}
use Rattle.fz_dom.specs.declared.change.Change.{Change}
use Rattle.fz_strength.specs.Operations.{equation}
use Rattle.fz_strength.specs.Domains.{IsTermOf}
use Rattle.fz_prop.proofs.Twice.{shrinks_twice}
use Rattle.fz_arith.specs.Narrowing.{IsDivided}
use Rattle.fz_arith.proofs.Steps.{narrowing_first, narrowing_more, rested_answer}
use Rattle.fz_arith.proofs.narrow.keep_bounds.Goals as goal

pub returns-in_err-change-2-clause-shrinks : goal.returns-in_err-change-2-clause-shrinks
returns-in_err-change-2-clause-shrinks c =
    shrinks_twice c.args.store.now c.loop-place.store c.step.new.store c.loop-place.invariant.shrinks c.in_err-change-2.ensures.shrinks

pub returns-in-Wiped-2-clause-shrinks : goal.returns-in-Wiped-2-clause-shrinks
returns-in-Wiped-2-clause-shrinks c =
    shrinks_twice c.args.store.now c.loop-place.store c.step.new.store c.loop-place.invariant.shrinks c.in_ok-change-2.ensures.shrinks

pub loop-place-init : goal.loop-place-init
loop-place-init c =
    narrowing_first c.is_changed-changed.result c.in_ok-change.change (equation c.args.operation c.args.operands.now c.args.value) c.args.store.now c.exclude_zero.new.store
    c.in_default.not-Wiped c.is_changed-changed.ensures c.in_ok-change.ensures.shrinks (c.in_ok-change.ensures.correct c.args.value) (c.in_ok-change.ensures.divided c.args.value)

pub loop-place-preserved : goal.loop-place-preserved
loop-place-preserved c =
    narrowing_more c.loop-place.changed c.is_changed-changed-in_default-2.result c.in_ok-change-2.change (equation c.args.operation c.args.operands.now c.args.value)
    c.args.store.now c.loop-place.store c.step.new.store c.loop-place.place c.in_default-2.not-Wiped c.is_changed-changed-in_default-2.ensures
    c.in_ok-change-2.ensures.shrinks c.in_ok-change-2.ensures.correct c.in_ok-change-2.ensures.step c.loop-place.invariant

pub are_all_fixed-requires-clause-operands : goal.are_all_fixed-requires-clause-operands
are_all_fixed-requires-clause-operands c =
    subst (λ (n : ℕ). AllByRecursion (IsTermOf n) c.args.operands.now) (sym c.loop-place.invariant.shrinks.narrower.size) c.requires.operands

pub returns-clause-answer : goal.returns-clause-answer
returns-clause-answer c = rw c.rested.ensures
    (rested_answer c.are_all_fixed.result c.loop-place.changed (equation c.args.operation c.args.operands.now c.args.value) c.args.store.now c.loop-place.store c.loop-place.place
    (omega (arith, c.loop-place-test.false)) (c.requires.value, c.requires.operands) c.loop-place.invariant c.if-changed.false c.are_all_fixed.ensures)

pub returns-in-Wiped-clause-answer : goal.returns-in-Wiped-clause-answer
returns-in-Wiped-clause-answer c =
    let e = equation c.args.operation c.args.operands.now c.args.value in
    subst (λ (change : Change). IsDivided change e c.args.store.now c.exclude_zero.new.store) c.in-Wiped.is (c.in_ok-change.ensures.divided c.args.value)

pub step-requires-clause-value : goal.step-requires-clause-value
step-requires-clause-value c = subst (λ (n : ℕ). IsTermOf n c.args.value) (sym c.loop-place.invariant.shrinks.narrower.size) c.requires.value

pub step-requires-clause-operands : goal.step-requires-clause-operands
step-requires-clause-operands c =
    subst (λ (n : ℕ). AllByRecursion (IsTermOf n) c.args.operands.now) (sym c.loop-place.invariant.shrinks.narrower.size) c.requires.operands
