use Rattle.std.proofs.Common.{arith}
use Rattle.std.specs.Arc.{arc_value}
use Rattle.fz_branch.specs.Plans.{plan_for}
use Rattle.fz_machine.proofs.AsCode.{new_law}
use Rattle.fz_machine.proofs.machine.Machine.new.Goals as goal

pub invariant_of-result-2 : goal.invariant_of-result-2
invariant_of-result-2 g c =
    new_law (arc_value c.args.model) c.args.mode (plan_for c.args.mode (arc_value c.args.model)) c.args.workers c.args.commit_distance c.args.adaptive_distance c.in-Ok.slots.items c.in_ok-book.book.book c.requires.mode c.requires.workers (omega arith) c.requires.commit_distance c.requires.adaptive_distance
    c.in-Ok.ensures c.in_ok-book.ensures.ok
