use Rattle.std.proofs.Common.{◌≡◌, ◌+◌, drop}
use Rattle.fz_shown.specs.Guesses.{length_before}
use Rattle.fz_shown.proofs.word.length_before.Given as goal

-- so many bytes, and those before the first of these in the rest
abbrev pub invariant-loop-place : goal.invariant-loop-place
invariant-loop-place l = l.place + length_before l.ends (drop l.place l.text) ≡ length_before l.ends l.text
