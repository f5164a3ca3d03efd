use Rattle.std.specs.Arc.{arc_value}
use Rattle.fz_runs.specs.Modes.{mode_for}
use Rattle.fz_search.proofs.team.search_all.Given as goal

abbrev pub ghosts-search_together : goal.ghosts-search_together
ghosts-search_together g a = record { model = arc_value a.model.now; mode = mode_for (arc_value a.model.now).goal a.options.now }
