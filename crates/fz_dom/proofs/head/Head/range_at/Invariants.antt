use Rattle.std.proofs.Common.{◌≡◌, drop}
use Rattle.fz_dom.specs.Places.{bit_ranges}
use Rattle.fz_dom.proofs.head.Head.range_at.Given as goal

abbrev pub invariant-loop-passed : goal.invariant-loop-passed
invariant-loop-passed l = bit_ranges l.self.base l.word ≡ drop l.passed (bit_ranges l.self.base l.self.bits)
