use Rattle.std.proofs.Common.{◌≡◌, drop}
use Rattle.fz_shown.specs.Guesses.{with_terms}
use Rattle.fz_shown.proofs.guess.read_terms.Given as goal

-- the terms that are left make of it what all of them make
abbrev pub invariant-loop-term : goal.invariant-loop-term
invariant-loop-term l = with_terms l.kind (drop l.term-index l.terms) (record { values = l.values; left = l.left }) ≡ with_terms l.kind l.terms (record { values = l.fn.values; left = l.text })
