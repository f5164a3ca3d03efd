use Rattle.fz_agenda.proofs.Waking.{IsWaking}
use Rattle.fz_agenda.proofs.wakes.wake_members.Given as goal

-- of the bits of the word some are left
abbrev pub invariant-places : goal.invariant-places
invariant-places l = IsWaking l.chunk.word l.chunk.bits l.left l.costs l.initial.agenda l.agenda

abbrev pub decreases-places : goal.decreases-places
decreases-places l = l.left
