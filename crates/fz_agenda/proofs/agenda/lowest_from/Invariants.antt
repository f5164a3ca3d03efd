use Rattle.fz_agenda.specs.Queues.{AreEmptyBelow}
use Rattle.fz_agenda.proofs.agenda.lowest_from.Given as goal

-- the queues so far are empty
abbrev pub invariant-loop-class : goal.invariant-loop-class
invariant-loop-class l = AreEmptyBelow l.queues l.class
