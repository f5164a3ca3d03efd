use Rattle.std.proofs.Common.{take}
use Rattle.fz_plain.specs.Entries.{AreNumbersAdded}
use Rattle.fz_plain.proofs.gather.add_numbers.Given as goal

-- those so far are added
abbrev pub invariant-loop-place : goal.invariant-loop-place
invariant-loop-place l = AreNumbersAdded (take l.place l.factors) (take l.place l.terms) l.initial.sum.factors.items l.initial.sum.terms.items l.sum.factors.items l.sum.terms.items
