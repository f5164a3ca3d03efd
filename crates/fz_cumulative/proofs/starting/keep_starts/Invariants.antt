use Rattle.fz_cumulative.proofs.FreeStarts.{AreKept}
use Rattle.fz_cumulative.proofs.starting.keep_starts.Given as goal

-- the starts so far are kept to where they are free
abbrev pub invariant-loop-place : goal.invariant-loop-place
invariant-loop-place l = AreKept l.initial.store l.store l.tasks l.high l.starts l.has_changed l.place
