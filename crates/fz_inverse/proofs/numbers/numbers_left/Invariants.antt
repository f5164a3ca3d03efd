use Rattle.fz_inverse.proofs.Lefts.{AreFoundBelow}
use Rattle.fz_inverse.proofs.numbers.numbers_left.Given as goal

-- the numbers of the others so far
abbrev pub invariant-loop-index : goal.invariant-loop-index
invariant-loop-index l = AreFoundBelow l.others l.store.doms l.fn.term l.fn.place l.index l.ranges.items
