use Rattle.std.proofs.Common.{arith}
use Rattle.std.specs.Arc.{arc_value}
use Rattle.fz_machine.proofs.Assets.{gathered_law}
use Rattle.fz_machine.proofs.portfolio.Portfolio.new.Goals as goal

pub invariant_of-result : goal.invariant_of-result
invariant_of-result g c =
    gathered_law (arc_value c.args.model) c.args.mode c.args.assets c.args.workers c.args.commit_distance c.args.adaptive_distance c.in-Ok.machines.items c.requires.mode c.requires.no_rows c.requires.assets c.requires.workers (omega arith)
    c.requires.commit_distance c.requires.adaptive_distance c.in-Ok.ensures
