use Rattle.fz_bits.specs.Words.{AreOnes}
use Rattle.fz_inverse.proofs.Lefts.{IsKeptBelow}
use Rattle.fz_inverse.proofs.numbers.bits_left.Given as goal

-- the numbers of the others so far
abbrev pub invariant-loop-index : goal.invariant-loop-index
invariant-loop-index l = AreOnes l.kept (λ k. IsKeptBelow l.others l.store.doms l.fn.place l.left l.index k)
