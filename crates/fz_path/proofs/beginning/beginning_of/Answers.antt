use Rattle.std.proofs.Common.{None}
use Rattle.std.specs.Arc.{arc_value}
use Rattle.fz_path.proofs.beginning.beginning_of.Goals as goal

pub returns-clause-spaces : goal.returns-clause-spaces
returns-clause-spaces g c = c.new.ensures.trail (arc_value c.args.model.now) None c.in_ok-root.ensures
