use Rattle.std.proofs.Common.{get_or}
use Rattle.fz_hall.specs.Seats.{IsTop, nobody}
use Rattle.fz_hall.proofs.tops.top_at.Given as goal

-- a full interval with the number of the place reaches to it
abbrev pub invariant-loop-step : goal.invariant-loop-step
invariant-loop-step l = IsTop l.seats (get_or l.seats l.place nobody) l.number
