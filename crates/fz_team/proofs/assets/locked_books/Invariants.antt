use Rattle.std.proofs.Common.{◌≡◌, length}
use Rattle.std.specs.Vec.{vec_len, vec_capacity}
use Rattle.fz_team.proofs.assets.locked_books.Given as goal

abbrev pub invariant-books : goal.invariant-books
invariant-books g l = (vec_len l.assets ≡ length l.yielded) × (vec_capacity l.assets ≡ vec_capacity l.initial.assets)
