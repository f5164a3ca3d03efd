use Rattle.fz_model.specs.Arguments.{argument_of}
use Rattle.fz_model.proofs.Mapped.{same_more, differ_at}
use Rattle.std.proofs.Common.{refl}
use Rattle.fz_model.proofs.constraint.same_arguments.Goals as goal

pub loop-i-preserved : goal.loop-i-preserved
loop-i-preserved c =
    same_more argument_of c.args.these.now c.args.those.now c.loop-i.i c.index-these-i.result c.index-those-i.result c.loop-i-test.true c.if-these-those.false c.index-these-i.is c.index-those-i.is
    (c.if-not-same.ensures.0 refl) c.loop-i.invariant

pub returns-then-not-same : goal.returns-then-not-same
returns-then-not-same c =
    differ_at argument_of c.args.these.now c.args.those.now c.loop-i.i c.index-these-i.result c.index-those-i.result c.loop-i-test.true c.if-these-those.false c.index-these-i.is c.index-those-i.is
    c.if-not-same.ensures.1
