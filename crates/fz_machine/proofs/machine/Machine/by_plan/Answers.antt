use Rattle.std.proofs.Common.{◌∙◌, ap, arith}
use Rattle.std.specs.Arc.{arc_value}
use Rattle.fz_spec.specs.Instance.{Instance}
use Rattle.fz_tree.specs.Book.{opening}
use Rattle.fz_machine.proofs.AsCode.{new_law}
use Rattle.fz_machine.proofs.machine.Machine.by_plan.Goals as goal

pub invariant_of-result-2 : goal.invariant_of-result-2
invariant_of-result-2 g c =
    new_law (arc_value c.args.model.now) c.args.mode c.args.plan c.args.workers c.args.commit_distance c.args.adaptive_distance c.in_ok-workers.workers.items c.in_ok-book.book.book c.requires.mode c.requires.workers (omega arith)
    c.requires.commit_distance c.requires.adaptive_distance c.in_ok-workers.ensures (c.in_ok-book.ensures.ok ∙ ap (λ (m : Instance). opening m c.args.mode) c.in_ok-clone.ensures.cases)
