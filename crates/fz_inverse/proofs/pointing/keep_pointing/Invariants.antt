use Rattle.fz_inverse.proofs.Keeping.{IsPointing}
use Rattle.fz_inverse.proofs.pointing.keep_pointing.Given as goal

-- the terms so far are kept to the numbers that can point back
abbrev pub invariant-loop-place : goal.invariant-loop-place
invariant-loop-place l = IsPointing l.terms l.others l.initial.store l.store l.has_changed l.place
