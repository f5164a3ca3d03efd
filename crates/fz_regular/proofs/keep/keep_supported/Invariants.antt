use Rattle.fz_regular.proofs.Keeping.{IsKeeping}
use Rattle.fz_regular.proofs.keep.keep_supported.Given as goal

-- the terms so far are kept to the numbers of lists that are accepted
abbrev pub invariant-loop-place : goal.invariant-loop-place
invariant-loop-place l = IsKeeping l.automaton l.terms l.initial.store l.store l.has_changed l.place
