use Rattle.std.proofs.Common.{◌≡◌, ◌+◌, length}
use Rattle.fz_team.specs.Ends.{IsWordOf}
use Rattle.fz_team.proofs.assets.gathered.Given as goal

abbrev pub invariant-members : goal.invariant-members
invariant-members g l =
    (l.seat.bound ≡ l.bound) × (l.seat.parts ≡ l.initial.seat.parts + length l.yielded) × IsWordOf g.T.Subject.model l.bests.items l.seat.least
