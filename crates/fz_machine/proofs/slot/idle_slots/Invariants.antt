use Rattle.std.proofs.Common.{◌≡◌, replicate}
use Rattle.std.specs.Arc.{arc_value}
use Rattle.fz_machine.specs.Cores.{idle}
use Rattle.fz_machine.proofs.slot.idle_slots.Given as goal

abbrev pub invariant-loop-worker : goal.invariant-loop-worker
invariant-loop-worker g l = l.slots.items ≡ replicate l._worker (idle (arc_value l.model) l.mode l.commit_distance l.adaptive_distance)
