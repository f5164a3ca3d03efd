use Rattle.std.proofs.Common.{◌≡◌, ◌≤◌, drop}
use Rattle.fz_shown.specs.Guesses.{magnitude}
use Rattle.fz_shown.proofs.word.magnitude.Given as goal

-- the digits that are left make of it what all of them make
abbrev pub invariant-loop-digit : goal.invariant-loop-digit
invariant-loop-digit l = record { few : l.number ≤ 2147483646; same : magnitude l.number (drop l.digit-index l.digits) ≡ magnitude 0 l.digits }
