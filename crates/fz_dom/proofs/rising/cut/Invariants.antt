use Rattle.std.proofs.Common.{◌≡◌, ◌++◌, drop}
use Rattle.fz_dom.specs.Wide.{cut_ranges}
use Rattle.fz_dom.proofs.rising.cut.Given as goal

abbrev pub invariant-loop-r : goal.invariant-loop-r
invariant-loop-r l = l.kept.items ++ cut_ranges l.low l.high (drop l.r-index l.ranges) ≡ cut_ranges l.low l.high l.ranges
