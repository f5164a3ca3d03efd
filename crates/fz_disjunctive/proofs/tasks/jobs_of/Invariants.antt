use Rattle.fz_disjunctive.proofs.Places.{AreSofar}
use Rattle.fz_disjunctive.proofs.tasks.jobs_of.Given as goal

-- the jobs of the tasks so far
abbrev pub invariant-loop-place : goal.invariant-loop-place
invariant-loop-place l = AreSofar l.direction l.tasks l.high l.jobs.items l.place
