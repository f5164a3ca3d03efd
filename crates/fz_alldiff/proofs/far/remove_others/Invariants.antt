use Rattle.fz_alldiff.proofs.Removing.{IsRemoving}
use Rattle.fz_alldiff.proofs.far.remove_others.Given as goal

-- the number is in none of the places so far
abbrev pub invariant-loop-other : goal.invariant-loop-other
invariant-loop-other l = IsRemoving l.terms l.done l.value l.fn.place l.initial.store l.store l.other
