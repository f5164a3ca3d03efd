use Rattle.fz_engine.proofs.Queuing.{QueuedBelow}
use Rattle.fz_engine.proofs.network.full_agenda.Given as goal

-- the propagators so far are queued
abbrev pub invariant-loop-place : goal.invariant-loop-place
invariant-loop-place l = QueuedBelow l.costs l.initial.agenda l.agenda l.place
