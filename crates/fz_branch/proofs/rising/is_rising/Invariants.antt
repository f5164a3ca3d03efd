use Rattle.fz_branch.proofs.Starting.{rising_to}
use Rattle.fz_branch.proofs.rising.is_rising.Given as goal

-- those so far rise
abbrev pub invariant-loop-place : goal.invariant-loop-place
invariant-loop-place l = rising_to l.place l.variables
