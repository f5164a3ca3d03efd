use Rattle.fz_column.proofs.Walking.{AreBelow}
use Rattle.fz_column.proofs.walk.first_from.Given as goal

-- the numbers that were passed are below the value
abbrev pub invariant-loop : goal.invariant-loop
invariant-loop l = AreBelow l.supports l.place l.value l.first
