use Rattle.fz_bits.proofs.Members.{AreMet}
use Rattle.fz_bits.proofs.bit_set.BitSet.meet.Given as goal

-- the words so far are met
abbrev pub invariant-loop-place : goal.invariant-loop-place
invariant-loop-place l = AreMet l.initial.self-inside.words.items l.word-items l.self-inside.words.items l.place
