use Rattle.std.proofs.Common.{pos, ◌+ℤ◌, ◌≤ℤ◌}
use Rattle.fz_sets.specs.Sets.{GREATEST}
use Rattle.fz_dom.proofs.close.lowest.Given as goal

abbrev pub invariant-loop-r : goal.invariant-loop-r
invariant-loop-r l = (l.base +ℤ pos 63) ≤ℤ GREATEST
