use Rattle.std.proofs.Math.Facts.{to_z-of_z}
use Rattle.fz_regular.proofs.Fronts.{step_by}
use Rattle.fz_regular.proofs.front.state_after.Goals as goal

pub returns : goal.returns
returns c =
    step_by c.args.automaton.now c.args.state c.symbol_of.result c.args.value c.next.result c.requires (rw (to_z-of_z c.ranges.value) at c.symbol_of.ensures) c.next.ensures
