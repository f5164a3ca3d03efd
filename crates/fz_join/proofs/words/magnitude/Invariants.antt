use Rattle.std.proofs.Common.{◌≡◌, ◌<◌, ◌^◌, drop}
use Rattle.fz_join.specs.Machine.{magnitude}
use Rattle.fz_join.proofs.words.magnitude.Given as goal

-- the digits that are left make of it what all of them make
abbrev pub invariant-loop-digit : goal.invariant-loop-digit
invariant-loop-digit l = record { few : l.number < 2 ^ 36; same : magnitude l.number (drop l.digit-index l.digits) ≡ magnitude 0 l.digits }
