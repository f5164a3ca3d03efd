use Rattle.std.proofs.Common.{drop}
use Rattle.fz_dom.specs.Union.{IsMerging}
use Rattle.fz_dom.proofs.union.merged.Given as goal

abbrev pub invariant-loop-next : goal.invariant-loop-next
invariant-loop-next l = IsMerging l.done.items l.last (drop l.next-index l.others) l.ordered
