use Rattle.std.proofs.Common.{◌≡◌, take, map}
use Rattle.fz_language.specs.Entries.{number_of}
use Rattle.fz_resolve.proofs.resolve.numbers.Given as goal

-- those so far
abbrev pub invariant-loop-term : goal.invariant-loop-term
invariant-loop-term l = l.numbers.items ≡ map number_of (take l.term-index l.terms)
