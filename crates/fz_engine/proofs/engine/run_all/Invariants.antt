use Rattle.fz_agenda.specs.Wakes.{IsDrained}
use Rattle.fz_prop.specs.Told.{AreTold}
use Rattle.fz_engine.specs.Runs.{IsRun, work}
use Rattle.fz_engine.proofs.engine.run_all.Given as goal

-- what ran so far
abbrev pub invariant-steps : goal.invariant-steps
invariant-steps l = record { run : IsRun l.network l.initial.store l.store l.agenda.states; drained : IsDrained l.store; told : AreTold l.network.sayings l.kept l.store.doms }

abbrev pub decreases-steps : goal.decreases-steps
decreases-steps l = work l.store l.agenda.states
