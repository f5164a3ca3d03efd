use Rattle.fz_inverse.proofs.Different.{AreApartBelow}
use Rattle.fz_inverse.proofs.apart.are_apart.Given as goal

-- none of the terms so far stands in the first list, nor before another
abbrev pub invariant-loop-place : goal.invariant-loop-place
invariant-loop-place l = AreApartBelow l.firsts l.seconds l.place
