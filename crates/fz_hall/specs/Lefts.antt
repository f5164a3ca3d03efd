-- What is left of terms, as intervals.
use Rattle.std.specs.Prelude.{ℤ, negsuc, ◌-ℤ◌, ◌≤ℤ◌, int_le, ◌&&◌, Bool, List}
use Rattle.std.specs.List.{AllByRecursion}
use Rattle.fz_dom.specs.declared.change.Change.{Change}
use Rattle.fz_dom.specs.declared.change.Change.TheVariants.{Same, Changed, Wiped}
use Rattle.fz_dom.specs.Shape.{least, greatest}
use Rattle.fz_spec.specs.declared.term.Term.{Term}
use Rattle.fz_strength.specs.Domains.{term_set}
use Rattle.fz_strength.specs.Differences.{IsSpread}
use Rattle.fz_hall.specs.declared.interval.Interval.{Interval}

-- from its least number to its greatest
abbrev pub left_of : List (List (ℤ × ℤ)) → Term → Interval
left_of ds t = record { low = least (term_set ds t); high = greatest (term_set ds t) }

-- the opposite numbers, by -1
abbrev pub turn : Interval → Interval
turn l = record { low = negsuc 0 -ℤ l.high; high = negsuc 0 -ℤ l.low }

-- all of it is in an interval
abbrev pub is_within : ℤ → ℤ → Interval → Bool
is_within low high l = int_le low l.low && int_le l.high high

-- what is told where nothing changed
abbrev pub IfSame : Change → Type 0 → Type 0
IfSame Same R = R
IfSame Changed R = Unit {0}
IfSame Wiped R = Unit {0}

-- the interval from a number to the greatest of a term isn't crowded, nor is that to the greatest of any
abbrev pub IsSpreadTo : List Term → List (List (ℤ × ℤ)) → ℤ → Term → Type 0
IsSpreadTo xs ds low t = low ≤ℤ greatest (term_set ds t) → IsSpread xs ds low (greatest (term_set ds t))

abbrev pub AreSpreadFrom : List Term → List (List (ℤ × ℤ)) → ℤ → Type 0
AreSpreadFrom xs ds low = AllByRecursion (IsSpreadTo xs ds low) xs
