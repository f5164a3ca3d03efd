use Rattle.std.proofs.Common.{refl}
use Rattle.fz_model.specs.Groups.{constraint_at}
use Rattle.fz_model.proofs.Numbered.{same_more}
use Rattle.fz_model.proofs.constraints.are_same_by_number.Goals as goal

pub loop-number-preserved : goal.loop-number-preserved
loop-number-preserved c =
    same_more c.args.these.now c.args.those.now c.loop-number.number (constraint_at c.at.result) (constraint_at c.at-in-loop-number.result) c.at.ensures c.at-in-loop-number.ensures (c.if-not-same.ensures.0 refl) c.loop-number.invariant
