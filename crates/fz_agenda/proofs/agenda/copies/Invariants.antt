use Rattle.std.proofs.Common.{◌≡◌, take}
use Rattle.fz_agenda.proofs.agenda.copies.Given as goal

-- those so far are copied
abbrev pub invariant-loop-queue : goal.invariant-loop-queue
invariant-loop-queue l = l.copies.items ≡ take l.queue-index l.queues
