use Rattle.fz_alldiff.proofs.Settling.{IsSettling}
use Rattle.fz_alldiff.proofs.settled.settle.Given as goal

-- the places so far that aren't done have none of the numbers
abbrev pub invariant-loop-place : goal.invariant-loop-place
invariant-loop-place l = IsSettling l.terms l.entries.items l.done.items l.initial.store l.store l.place
