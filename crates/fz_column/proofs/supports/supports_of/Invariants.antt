use Rattle.fz_column.proofs.Filling.{IsGathered}
use Rattle.fz_column.proofs.supports.supports_of.Given as goal

-- the places so far are gathered
abbrev pub invariant-loop-place : goal.invariant-loop-place
invariant-loop-place l = IsGathered l.places l.supports.items l.place-index
