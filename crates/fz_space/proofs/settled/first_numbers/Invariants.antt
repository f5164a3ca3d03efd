use Rattle.std.proofs.Common.{◌≡◌, length}
use Rattle.fz_space.specs.Alive.{AreSettled}
use Rattle.fz_space.proofs.settled.first_numbers.Given as goal

-- the numbers of those so far
abbrev pub invariant-loop-place : goal.invariant-loop-place
invariant-loop-place l = (length l.numbers.items ≡ l.place) × AreSettled l.numbers.items l.doms
