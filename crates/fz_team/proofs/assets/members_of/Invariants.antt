use Rattle.std.proofs.Common.{◌≡◌, ◌+◌}
use Rattle.std.specs.Prelude.{All}
use Rattle.std.specs.Vec.{vec_len}
use Rattle.fz_bound.specs.Rule.{UNSET, PARTS}
use Rattle.fz_team.specs.Members.{IsMember}
use Rattle.fz_team.proofs.assets.members_of.Given as goal

abbrev pub invariant-workers : goal.invariant-workers
invariant-workers g l =
    (l.seat.bound ≡ l.bound) × (l.seat.least ≡ UNSET) × (l.seat.parts + l.worker ≡ PARTS) × (vec_len l.members ≡ l.worker) × All (IsMember g.T.Subject.model l.bound l.count) l.members.items
