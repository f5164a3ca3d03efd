use Rattle.std.proofs.Math.Facts.{to_z-of_z}
use Rattle.fz_cumulative.proofs.profile.meets.Goals as goal

pub returns-then-runs_at : goal.returns-then-runs_at
returns-then-runs_at c =
    let running = rw (to_z-of_z c.ranges.start, to_z-of_z c.ranges.time) at (c.runs_at.ensures.0 c.if-runs_at.true) in
    let tells = rw (to_z-of_z c.ranges.load, to_z-of_z c.ranges.time, to_z-of_z c.ranges.bound) at c.passes.ensures in
    ((λ passed. record { running = running; over = tells.0 passed }), (λ h. tells.1 h.over))
