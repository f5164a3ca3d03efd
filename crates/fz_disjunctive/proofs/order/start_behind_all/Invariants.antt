use Rattle.fz_disjunctive.specs.Schedules.{IsEarliest}
use Rattle.fz_disjunctive.proofs.order.start_behind_all.Given as goal

-- the start so far is no later than any schedule has it
abbrev pub invariant-loop-other : goal.invariant-loop-other
invariant-loop-other l = IsEarliest l.jobs l.earliest l.job
