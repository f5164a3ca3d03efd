use Rattle.fz_column.proofs.Walking.{AreEndsBelow}
use Rattle.fz_column.proofs.walk.ends_of.Given as goal

-- the ends of the supports so far
abbrev pub invariant-loop-place : goal.invariant-loop-place
invariant-loop-place l = AreEndsBelow l.supports l.ends.items l.place
