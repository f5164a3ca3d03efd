use Rattle.std.proofs.Common.{◌≡◌, drop, true}
use Rattle.fz_shown.specs.Guesses.{terms_told}
use Rattle.fz_shown.proofs.shown.mark_terms.Given as goal

-- the terms that are left make of it what all of them make
abbrev pub invariant-loop-term : goal.invariant-loop-term
invariant-loop-term l = terms_told (λ t. true) (drop l.term-index l.terms) l.marks ≡ terms_told (λ t. true) l.terms l.fn.marks
