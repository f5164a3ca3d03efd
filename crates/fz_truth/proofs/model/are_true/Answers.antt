use Rattle.std.proofs.Common.{refl, arith}
use Rattle.fz_spec.specs.Constraints.{IsTrueOf}
use Rattle.fz_model.specs.Groups.{constraint_at}
use Rattle.fz_truth.proofs.Declared.{before_more, all_before}
use Rattle.fz_truth.proofs.model.are_true.Goals as goal
use Rattle.fz_sets.proofs.Lists.{all_at}

pub loop-number-init : goal.loop-number-init
loop-number-init c = λ i x l at. absurd (omega (arith, l))

pub returns-then-not-is_true_at : goal.returns-then-not-is_true_at
returns-then-not-is_true_at c = (
  λ t. cc,
  λ all. c.if-not-is_true_at.ensures.1 (all_at (IsTrueOf c.args.values.now) c.args.constraints.now c.loop-number.number (constraint_at c.at.result) all c.at.ensures),
)

pub loop-number-preserved : goal.loop-number-preserved
loop-number-preserved c =
    before_more (IsTrueOf c.args.values.now) c.args.constraints.now c.loop-number.number (constraint_at c.at.result) c.at.ensures c.loop-number.invariant (c.if-not-is_true_at.ensures.0 refl)

pub returns : goal.returns
returns c = (λ t. all_before (IsTrueOf c.args.values.now) c.args.constraints.now c.loop-number.number (let test = c.loop-number-test.false in let count = c.len-number-end.ensures in omega (arith, test, count)) c.loop-number.invariant, λ all. refl)
