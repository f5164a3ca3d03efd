use Rattle.std.proofs.Common.{◌≡◌, ◌+◌, drop}
use Rattle.fz_sets.specs.Sets.{set_size}
use Rattle.fz_dom.proofs.rising.size_of.Given as goal

abbrev pub invariant-loop-r : goal.invariant-loop-r
invariant-loop-r l = l.size + set_size (drop l.r-index l.ranges) ≡ set_size l.ranges
