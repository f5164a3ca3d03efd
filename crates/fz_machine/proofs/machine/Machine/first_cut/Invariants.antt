use Rattle.std.proofs.Common.{◌≡◌, drop}
use Rattle.std.specs.List.{position_from}
use Rattle.fz_machine.specs.Schedule.{first_cut, can}
use Rattle.fz_machine.proofs.machine.Machine.first_cut.Given as goal

abbrev pub invariant-victims : goal.invariant-victims
invariant-victims g l = first_cut l.self ≡ position_from can l.worker (drop l.worker l.self.workers)
