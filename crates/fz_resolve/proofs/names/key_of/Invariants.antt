use Rattle.std.proofs.Common.{◌≡◌, drop}
use Rattle.fz_resolve.specs.Meant.{tail_from}
use Rattle.fz_resolve.proofs.names.key_of.Given as goal

-- the bytes that are left make of it what all of them make
abbrev pub invariant-loop-byte : goal.invariant-loop-byte
invariant-loop-byte l = tail_from l.tail (drop l.byte-index l.bytes) ≡ tail_from 0 l.bytes
