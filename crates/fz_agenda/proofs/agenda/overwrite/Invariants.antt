use Rattle.std.proofs.Common.{◌≡◌, take, length}
use Rattle.fz_agenda.proofs.agenda.overwrite.Given as goal

-- those so far are the same
abbrev pub invariant-loop-i : goal.invariant-loop-i
invariant-loop-i l = record { size : length l.queues.items ≡ length l.others; same : take l.i l.queues.items ≡ take l.i l.others }
