use Rattle.fz_machine.specs.Schedule.{NoneActs}
use Rattle.fz_machine.proofs.machine.Machine.first_event.Given as goal

abbrev pub invariant-workers : goal.invariant-workers
invariant-workers g l = NoneActs l.self l.enough l.from l.worker
