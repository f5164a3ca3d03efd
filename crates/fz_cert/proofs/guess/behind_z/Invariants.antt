use Rattle.std.specs.Prelude.{◌≡◌, ℕ, ◌<◌, List, ◌∷◌, ◌++◌, length}
use Rattle.fz_cert.specs.Guesses.{AreBeforeZ}
use Rattle.fz_cert.proofs.guess.behind_z.Given as goal

-- what is after the last z is found where that lies before this place
abbrev pub invariant-loop-i : goal.invariant-loop-i
invariant-loop-i l = (front rest : List ℕ) → AreBeforeZ rest → l.output ≡ front ++ 122 ∷ rest → length front < l.i → l.rest ≡ rest
