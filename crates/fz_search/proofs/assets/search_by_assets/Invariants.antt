use Rattle.std.specs.Arc.{arc_value}
use Rattle.fz_runs.specs.Modes.{mode_for}
use Rattle.fz_search.proofs.assets.search_by_assets.Given as goal

abbrev pub ghosts-book_by_assets : goal.ghosts-book_by_assets
ghosts-book_by_assets g a = record { model = arc_value a.model.now; mode = mode_for (arc_value a.model.now).goal a.options.now }
