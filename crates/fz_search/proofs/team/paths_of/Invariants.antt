use Rattle.std.proofs.Common.{◌≡◌}
use Rattle.std.specs.Vec.{vec_len}
use Rattle.fz_search.proofs.Workers.{are_idle}
use Rattle.fz_search.proofs.team.paths_of.Given as goal

abbrev pub invariant-workers : goal.invariant-workers
invariant-workers g l = (vec_len l.paths ≡ l._worker) × are_idle g.B.Subject.model g.B.Subject.mode l.options.commit_distance l.options.adaptive_distance l.paths.items
