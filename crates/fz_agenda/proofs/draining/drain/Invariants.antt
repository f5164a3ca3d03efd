use Rattle.std.proofs.Common.{length}
use Rattle.fz_agenda.proofs.Drained.{IsUnderWay}
use Rattle.fz_agenda.proofs.draining.drain.Given as goal

-- what was taken so far is drained
abbrev pub invariant-changes : goal.invariant-changes
invariant-changes l = IsUnderWay l.wakes l.initial.store l.initial.agenda l.store l.agenda

abbrev pub decreases-changes : goal.decreases-changes
decreases-changes l = length l.store.changed
