use Rattle.std.proofs.Common.{◌≡◌, length}
use Rattle.std.specs.Vec.{vec_len, vec_capacity}
use Rattle.fz_team.proofs.assets.unlocked.Given as goal

abbrev pub invariant-assets : goal.invariant-assets
invariant-assets g l = (vec_len l.books ≡ length l.yielded) × (vec_capacity l.books ≡ vec_capacity l.initial.books)
