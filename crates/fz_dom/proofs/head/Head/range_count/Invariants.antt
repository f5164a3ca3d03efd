use Rattle.std.proofs.Common.{◌≡◌, ◌+◌, length}
use Rattle.fz_dom.specs.Places.{bit_ranges}
use Rattle.fz_dom.proofs.head.Head.range_count.Given as goal

abbrev pub invariant-loop-word : goal.invariant-loop-word
invariant-loop-word l = l.count + length (bit_ranges l.self.base l.word) ≡ length (bit_ranges l.self.base l.self.bits)

abbrev pub decreases-loop-word : goal.decreases-loop-word
decreases-loop-word l = length (bit_ranges l.self.base l.word)
