-- Intervals that terms fill.
use Rattle.std.specs.Prelude.{◌≡◌, ℤ, pos, false, List}
use Rattle.fz_spec.specs.declared.term.Term.{Term}
use Rattle.fz_spec.specs.Constraints.{term_value}
use Rattle.fz_strength.specs.Differences.{confined, interval_size, is_between, is_confined}

-- as many terms are confined to an interval as it has numbers
abbrev pub IsFull : List (List (ℤ × ℤ)) → List Term → ℤ → ℤ → Type 0
IsFull ds xs low high = pos (confined xs ds low high) ≡ interval_size low high

-- the number of a term isn't in an interval, unless the term is confined to it
abbrev pub IsKeptOut : List (List (ℤ × ℤ)) → Term → ℤ → ℤ → List ℤ → Type 0
IsKeptOut ds x low high a = is_confined ds low high x ≡ false → is_between low high (term_value a x) ≡ false
