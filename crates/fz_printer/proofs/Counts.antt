-- What stands after that many solutions.
use Rattle.std.proofs.Common.{◌≡◌, ◌∙◌, ℕ, List, [], ◌∷◌, length, Bool, true, false, Option, Some, None, ap, refl}
use Rattle.std.specs.Prelude.{ℤ, if◌then◌else◌}
use Rattle.fz_spec.specs.Run.{closing}
use Rattle.fz_print.specs.Ending.{statistics_text}
use Rattle.fz_runs.specs.Runs.{counted}
use Rattle.fz_printer.specs.Texts.{closing_after, count_if, ending, ending_after}

pub closing_by_count : (l : List (List ℤ)) (n : ℕ) → length l ≡ n → closing_after n ≡ closing l
closing_by_count [] n is = rw (← is) refl
closing_by_count (a ∷ l) n is = rw (← is) refl

pub ending_by_count : (complete : Bool) (l : List (List ℤ)) (n : ℕ) → length l ≡ n → ending_after complete n ≡ ending complete l
ending_by_count complete l n is = ap (λ (u : List ℕ). if complete then u else []) (closing_by_count l n is)

pub counted_by_count : (asked : Bool) (l : List (List ℤ)) (n : ℕ) → length l ≡ n → statistics_text (count_if asked n) ≡ statistics_text (counted asked l)
counted_by_count true l n is = rw (← is) refl
counted_by_count false l n is = refl
