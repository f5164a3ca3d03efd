use Rattle.std.proofs.Common.{◌≡◌, ◌<◌, ◌⊎◌, ℕ, drop, pos, ◌+ℤ◌}
use Rattle.std.specs.Prelude.{◌↔◌}
use Rattle.std.specs.Int.{bit_at}
use Rattle.fz_sets.specs.Sets.{IsInSet}
use Rattle.fz_dom.proofs.rising.word_of.Given as goal

abbrev pub invariant-loop-r : goal.invariant-loop-r
invariant-loop-r l = (i : ℕ) → i < 64 → ((bit_at l.word i ≡ 1) ⊎ IsInSet (drop l.r-index l.ranges) (l.base +ℤ pos i)) ↔ IsInSet l.ranges (l.base +ℤ pos i)
