use Rattle.fz_branch.proofs.Picking.{IsBest}
use Rattle.fz_branch.proofs.pick.least_ranked.Given as goal

abbrev pub invariant-loop-place : goal.invariant-loop-place
invariant-loop-place l = IsBest l.pick l.doms l.variables l.place l.best l.least
