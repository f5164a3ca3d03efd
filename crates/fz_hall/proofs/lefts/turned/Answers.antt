use Rattle.fz_hall.specs.Lefts.{turn}
use Rattle.fz_hall.specs.Seats.{nothing}
use Rattle.fz_hall.proofs.Seating.{mapped_more}
use Rattle.fz_hall.proofs.lefts.turned.Goals as goal

pub loop-left-preserved : goal.loop-left-preserved
loop-left-preserved c =
    mapped_more turn c.args.lefts.now c.loop-left.left-index nothing c.loop-left.turned.items c.push.new.self.items c.turn.result c.loop-left-test.true c.loop-left.invariant c.turn.ensures c.in_ok-push.ensures.items
