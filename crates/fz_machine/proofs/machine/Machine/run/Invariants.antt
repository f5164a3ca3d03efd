use Rattle.fz_machine.specs.Measure.{core_left}
use Rattle.fz_machine.proofs.Going.{HasCome}
use Rattle.fz_machine.proofs.machine.Machine.run.Given as goal

abbrev pub invariant-turns : goal.invariant-turns
invariant-turns g l = HasCome l.enough l.fn.seed l.initial.self l.number l.self

abbrev pub decreases-turns : goal.decreases-turns
decreases-turns g l = core_left l.self
