use Rattle.std.proofs.Common.{◌≡◌, replicate, None}
use Rattle.fz_path.specs.Paths.{bare}
use Rattle.fz_machine.specs.Cores.{Worker}
use Rattle.fz_machine.proofs.slot.slots_beside.Given as goal

abbrev pub invariant-loop-worker : goal.invariant-loop-worker
invariant-loop-worker g l = let w : Worker = record { path = bare l.path; hand = None } in l.slots.items ≡ replicate l._worker w
