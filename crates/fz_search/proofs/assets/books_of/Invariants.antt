use Rattle.std.proofs.Common.{◌≡◌}
use Rattle.std.specs.Vec.{vec_len}
use Rattle.fz_search.proofs.assets.books_of.Given as goal

abbrev pub invariant-assets : goal.invariant-assets
invariant-assets g l = vec_len l.books ≡ l._asset
