use Rattle.std.proofs.Common.{◌≡◌, length}
use Rattle.fz_cert.proofs.Trying.{AreTried, room_from}
use Rattle.fz_cert.proofs.small.+none_holds.Given as goal

abbrev pub decreases-none_holds : goal.decreases-none_holds
decreases-none_holds l = length l.variables.now

-- the numbers stand as they stood, and those below the next were tried
abbrev pub invariant-numbers : goal.invariant-numbers
invariant-numbers l = record {
  same : l.values.items ≡ l.fn.values.items;
  tried : AreTried l.fn.constraint l.fn.area l.place l.rest l.fn.values.items l.next;
}

abbrev pub decreases-numbers : goal.decreases-numbers
decreases-numbers l = room_from l.next
