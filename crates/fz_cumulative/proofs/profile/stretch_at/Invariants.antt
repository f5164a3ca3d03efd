use Rattle.fz_cumulative.proofs.Stretches.{IsStretchBefore}
use Rattle.fz_cumulative.proofs.profile.stretch_at.Given as goal

-- the stretch of those so far
abbrev pub invariant-loop-i : goal.invariant-loop-i
invariant-loop-i l = IsStretchBefore l.tasks l.place l.time l.stretch.since l.stretch.until l.i
