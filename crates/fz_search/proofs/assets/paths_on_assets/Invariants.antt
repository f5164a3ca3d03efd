use Rattle.std.proofs.Common.{◌≡◌}
use Rattle.std.specs.Vec.{vec_len}
use Rattle.fz_search.specs.Searched.{AreOfAssets}
use Rattle.fz_search.proofs.assets.paths_on_assets.Given as goal

abbrev pub invariant-workers : goal.invariant-workers
invariant-workers g l = (vec_len l.paths ≡ l._worker) × AreOfAssets g.B.Subject.model g.B.Subject.mode l.options l.paths.items
