use Rattle.std.proofs.Common.{take}
use Rattle.fz_alldiff.proofs.Settling.{IsKeeping}
use Rattle.fz_alldiff.proofs.settled.keep_free.Given as goal

-- the numbers of the entries so far have left
abbrev pub invariant-loop-entry : goal.invariant-loop-entry
invariant-loop-entry l = IsKeeping l.fn.term (take l.entry-index l.entries) l.initial.store l.store
