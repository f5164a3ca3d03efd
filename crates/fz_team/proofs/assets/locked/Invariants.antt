use Rattle.std.proofs.Common.{◌≡◌, length}
use Rattle.std.specs.Vec.{vec_len}
use Rattle.fz_team.proofs.assets.locked.Given as goal

abbrev pub invariant-loop-path : goal.invariant-loop-path
invariant-loop-path g l = vec_len l.locked ≡ length l.yielded
