use Rattle.std.proofs.Common.{take}
use Rattle.fz_branch.specs.Plans.{AreDone}
use Rattle.fz_branch.proofs.choose.choose_among.Given as goal

-- those so far are done
abbrev pub invariant-loop-place : goal.invariant-loop-place
invariant-loop-place l = AreDone l.doms (take l.place l.parts)
