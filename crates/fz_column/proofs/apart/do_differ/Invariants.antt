use Rattle.fz_column.proofs.Different.{AreApartBelow}
use Rattle.fz_column.proofs.apart.do_differ.Given as goal

-- none of the terms so far stands before another
abbrev pub invariant-loop-place : goal.invariant-loop-place
invariant-loop-place l = AreApartBelow l.terms l.place
