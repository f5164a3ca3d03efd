use Rattle.std.proofs.Common.{subst}
use Rattle.fz_branch.specs.Plans.{IsRising}
use Rattle.fz_branch.proofs.Starting.{said_more}
use Rattle.fz_branch.proofs.rising.rises_of.Goals as goal

pub loop-part-preserved : goal.loop-part-preserved
loop-part-preserved c =
    said_more c.loop-part.rises.items c.push.new.self.items c.args.parts.now c.loop-part.part-index c.is_rising.result c.part-item.result c.loop-part-test.true c.part-item.is c.in_ok-push.ensures.items
    (λ says. subst IsRising c.variables.ensures (c.is_rising.ensures says)) c.loop-part.invariant
