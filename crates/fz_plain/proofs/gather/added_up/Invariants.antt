use Rattle.std.proofs.Common.{drop}
use Rattle.fz_plain.specs.Entries.{IsAdding}
use Rattle.fz_plain.proofs.gather.added_up.Given as goal

-- added up so far
abbrev pub invariant-loop-next : goal.invariant-loop-next
invariant-loop-next l = IsAdding l.sum.factors.items l.sum.terms.items l.last (drop l.next-index l.others) l.entries
