use Rattle.fz_machine.proofs.Going.{acts_first, acts_around}
use Rattle.fz_machine.proofs.machine.Machine.event_around.Goals as goal

pub returns-in-Some : goal.returns-in-Some
returns-in-Some g c =
    acts_first c.args.self.now c.args.enough c.args.first c.workers.result c.first_event.result c.in-Some.event c.workers.ensures.workers c.in-Some.is c.first_event.ensures

pub returns-in-None : goal.returns-in-None
returns-in-None g c =
    acts_around c.args.self.now c.args.enough c.args.first c.workers.result c.first_event.result c.first_event-in-None.result c.workers.ensures.workers c.in-None.is c.first_event.ensures c.first_event-in-None.ensures
