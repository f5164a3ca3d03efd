use Rattle.std.proofs.Common.{◌-◌, ◌≤◌}
use Rattle.fz_language.specs.Places.{IsPlaceOf}
use Rattle.fz_lex.proofs.place.place_within.Given as goal

abbrev pub invariant-bytes : goal.invariant-bytes
invariant-bytes l = (l.here ≤ l.at) × IsPlaceOf l.text l.here l.place.line l.place.column

abbrev pub decreases-bytes : goal.decreases-bytes
decreases-bytes l = l.at - l.here
