use Rattle.std.proofs.Common.{◌≡◌}
use Rattle.std.specs.Arc.{arc_value}
use Rattle.fz_machine.specs.Portfolios.{assets_of}
use Rattle.fz_machine.proofs.portfolio.machines_of.Given as goal

abbrev pub invariant-loop-asset : goal.invariant-loop-asset
invariant-loop-asset g l = l.machines.items ≡ assets_of (arc_value l.model) l.mode l.asset l.workers l.commit_distance l.adaptive_distance
