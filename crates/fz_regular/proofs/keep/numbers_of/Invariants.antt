use Rattle.std.proofs.Common.{◌-◌, ◌*◌}
use Rattle.fz_sets.specs.Sets.{AreWithinLimits}
use Rattle.fz_regular.proofs.Numbers.{AreNumbersBelow}
use Rattle.fz_regular.proofs.keep.numbers_of.Given as goal

-- the numbers of the symbols so far are in the ranges
abbrev pub invariant-symbols : goal.invariant-symbols
invariant-symbols l = record {
  limits : AreWithinLimits l.ranges.items;
  numbers : AreNumbersBelow l.supports l.row l.from l.ranges.items;
}

abbrev pub decreases-symbols : goal.decreases-symbols
decreases-symbols l = l.supports.width * 64 - l.from
