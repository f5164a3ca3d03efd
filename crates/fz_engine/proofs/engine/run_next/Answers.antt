use Rattle.std.proofs.Common.{List, ◌≡◌, ◌<◌, ◌∙◌, refl, sym, subst, length, inl}
use Rattle.std.specs.Prelude.{ℤ, slice_get, Some}
use Rattle.fz_prop.specs.Told.{AreTold}
use Rattle.fz_strength.specs.Domains.{room}
use Rattle.fz_strength.specs.Promises.{RestsForGood}
use Rattle.fz_strength.specs.Sayings.{Saying, line_of}
use Rattle.fz_agenda.specs.Wakes.{Waking, IsDraining, IsDrainingBut}
use Rattle.fz_engine.specs.Runs.{HasMoved, IsRun}
use Rattle.fz_engine.proofs.Running.{run_drained, run_drained_but, ran_gone, work_falls, work_falls_but, moved_set, queued_within}
use Rattle.fz_engine.proofs.engine.run_next.Goals as goal

pub returns-in_err-drain_but-in-Fix-clause-run : goal.returns-in_err-drain_but-in-Fix-clause-run
returns-in_err-drain_but-in-Fix-clause-run c =
    let said : (saying : Saying) × (slice_get c.args.network.now.sayings c.args.place ≡ Some saying) × line_of saying c.run.new.store.doms = rw c.in-Fix.is at c.in_ok-run.ensures.answer in
    let draining : IsDrainingBut c.args.place c.args.network.now.wakes c.run.new.store c.args.agenda.now c.drain_but.new.store c.drain_but.new.agenda =
    subst (λ (w : Waking). IsDrainingBut c.args.place w c.run.new.store c.args.agenda.now c.drain_but.new.store c.drain_but.new.agenda) c.wakes.ensures.wakes c.drain_but.ensures.draining in
    run_drained_but c.args.network.now c.args.store.now c.run.new.store c.drain_but.new.store c.args.agenda.now c.drain_but.new.agenda c.args.place said.0 c.wakes.ensures.network c.run.ensures.run draining said.1 said.2

pub returns-in_ok-drain_but-in-Fix-clause-run : goal.returns-in_ok-drain_but-in-Fix-clause-run
returns-in_ok-drain_but-in-Fix-clause-run c =
    let said : (saying : Saying) × (slice_get c.args.network.now.sayings c.args.place ≡ Some saying) × line_of saying c.run.new.store.doms = rw c.in-Fix.is at c.in_ok-run.ensures.answer in
    let draining : IsDrainingBut c.args.place c.args.network.now.wakes c.run.new.store c.args.agenda.now c.drain_but.new.store c.drain_but.new.agenda =
    subst (λ (w : Waking). IsDrainingBut c.args.place w c.run.new.store c.args.agenda.now c.drain_but.new.store c.drain_but.new.agenda) c.wakes.ensures.wakes c.drain_but.ensures.draining in
    run_drained_but c.args.network.now c.args.store.now c.run.new.store c.drain_but.new.store c.args.agenda.now c.drain_but.new.agenda c.args.place said.0 c.wakes.ensures.network c.run.ensures.run draining said.1 said.2

pub returns-in_ok-drain_but-in-Fix-clause-progress : goal.returns-in_ok-drain_but-in-Fix-clause-progress
returns-in_ok-drain_but-in-Fix-clause-progress c =
    let said : (saying : Saying) × (slice_get c.args.network.now.sayings c.args.place ≡ Some saying) × line_of saying c.run.new.store.doms = rw c.in-Fix.is at c.in_ok-run.ensures.answer in
    let draining : IsDrainingBut c.args.place c.args.network.now.wakes c.run.new.store c.args.agenda.now c.drain_but.new.store c.drain_but.new.agenda =
    subst (λ (w : Waking). IsDrainingBut c.args.place w c.run.new.store c.args.agenda.now c.drain_but.new.store c.drain_but.new.agenda) c.wakes.ensures.wakes c.drain_but.ensures.draining in
    (c.in_ok-drain_but-in-Fix.ensures.drained, work_falls_but c.args.network.now.wakes c.args.store.now c.run.new.store c.drain_but.new.store c.args.agenda.now c.drain_but.new.agenda c.args.place c.run.ensures.falls c.requires.queued c.requires.drained draining)

pub returns-in_err-drain-in-NoFix-clause-run : goal.returns-in_err-drain-in-NoFix-clause-run
returns-in_err-drain-in-NoFix-clause-run c =
    let draining : IsDraining c.args.network.now.wakes c.run.new.store c.args.agenda.now c.drain.new.store c.drain.new.agenda =
    subst (λ (w : Waking). IsDraining w c.run.new.store c.args.agenda.now c.drain.new.store c.drain.new.agenda) c.wakes-in-NoFix.ensures.wakes c.drain.ensures.draining in
    run_drained c.args.network.now c.args.store.now c.run.new.store c.drain.new.store c.args.agenda.now c.drain.new.agenda c.wakes-in-NoFix.ensures.network c.run.ensures.run draining

pub returns-in_ok-drain-in-NoFix-clause-run : goal.returns-in_ok-drain-in-NoFix-clause-run
returns-in_ok-drain-in-NoFix-clause-run c =
    let draining : IsDraining c.args.network.now.wakes c.run.new.store c.args.agenda.now c.drain.new.store c.drain.new.agenda =
    subst (λ (w : Waking). IsDraining w c.run.new.store c.args.agenda.now c.drain.new.store c.drain.new.agenda) c.wakes-in-NoFix.ensures.wakes c.drain.ensures.draining in
    run_drained c.args.network.now c.args.store.now c.run.new.store c.drain.new.store c.args.agenda.now c.drain.new.agenda c.wakes-in-NoFix.ensures.network c.run.ensures.run draining

pub returns-in_ok-drain-in-NoFix-clause-progress : goal.returns-in_ok-drain-in-NoFix-clause-progress
returns-in_ok-drain-in-NoFix-clause-progress c =
    let draining : IsDraining c.args.network.now.wakes c.run.new.store c.args.agenda.now c.drain.new.store c.drain.new.agenda =
    subst (λ (w : Waking). IsDraining w c.run.new.store c.args.agenda.now c.drain.new.store c.drain.new.agenda) c.wakes-in-NoFix.ensures.wakes c.drain.ensures.draining in
    let less : room c.run.new.store.doms < room c.args.store.now.doms = rw c.in-NoFix.is at c.in_ok-run.ensures.answer in
    (c.in_ok-drain-in-NoFix.ensures.drained, work_falls c.args.network.now.wakes c.args.store.now c.run.new.store c.drain.new.store c.args.agenda.now.states c.args.agenda.now c.drain.new.agenda (inl less) refl c.requires.drained draining)

pub returns-in_err-drain-in-Subsumed-clause-run : goal.returns-in_err-drain-in-Subsumed-clause-run
returns-in_err-drain-in-Subsumed-clause-run c =
    let said : (saying : Saying) × (slice_get c.args.network.now.sayings c.args.place ≡ Some saying) × RestsForGood saying c.run.new.store.doms = rw c.in-Subsumed.is at c.in_ok-run.ensures.answer in
    let within = queued_within c.args.agenda.now.states c.args.place c.requires.queued in
    let gone : IsRun c.args.network.now c.args.store.now c.run.new.store c.retire.new.self.states =
    ran_gone c.args.network.now c.args.store.now c.run.new.store c.args.agenda.now.states c.retire.new.self.states c.args.place said.0 c.run.ensures.run said.1 within said.2 c.retire.ensures.states in
    let draining : IsDraining c.args.network.now.wakes c.run.new.store c.retire.new.self c.drain-in-Subsumed.new.store c.drain-in-Subsumed.new.agenda =
    subst (λ (w : Waking). IsDraining w c.run.new.store c.retire.new.self c.drain-in-Subsumed.new.store c.drain-in-Subsumed.new.agenda) c.wakes-in-Subsumed.ensures.wakes c.drain-in-Subsumed.ensures.draining in
    run_drained c.args.network.now c.args.store.now c.run.new.store c.drain-in-Subsumed.new.store c.retire.new.self c.drain-in-Subsumed.new.agenda c.wakes-in-Subsumed.ensures.network gone draining

pub returns-in_ok-drain-in-Subsumed-clause-run : goal.returns-in_ok-drain-in-Subsumed-clause-run
returns-in_ok-drain-in-Subsumed-clause-run c =
    let said : (saying : Saying) × (slice_get c.args.network.now.sayings c.args.place ≡ Some saying) × RestsForGood saying c.run.new.store.doms = rw c.in-Subsumed.is at c.in_ok-run.ensures.answer in
    let within = queued_within c.args.agenda.now.states c.args.place c.requires.queued in
    let gone : IsRun c.args.network.now c.args.store.now c.run.new.store c.retire.new.self.states =
    ran_gone c.args.network.now c.args.store.now c.run.new.store c.args.agenda.now.states c.retire.new.self.states c.args.place said.0 c.run.ensures.run said.1 within said.2 c.retire.ensures.states in
    let draining : IsDraining c.args.network.now.wakes c.run.new.store c.retire.new.self c.drain-in-Subsumed.new.store c.drain-in-Subsumed.new.agenda =
    subst (λ (w : Waking). IsDraining w c.run.new.store c.retire.new.self c.drain-in-Subsumed.new.store c.drain-in-Subsumed.new.agenda) c.wakes-in-Subsumed.ensures.wakes c.drain-in-Subsumed.ensures.draining in
    run_drained c.args.network.now c.args.store.now c.run.new.store c.drain-in-Subsumed.new.store c.retire.new.self c.drain-in-Subsumed.new.agenda c.wakes-in-Subsumed.ensures.network gone draining

pub returns-in_ok-drain-in-Subsumed-clause-progress : goal.returns-in_ok-drain-in-Subsumed-clause-progress
returns-in_ok-drain-in-Subsumed-clause-progress c =
    let said : (saying : Saying) × (slice_get c.args.network.now.sayings c.args.place ≡ Some saying) × RestsForGood saying c.run.new.store.doms = rw c.in-Subsumed.is at c.in_ok-run.ensures.answer in
    let within = queued_within c.args.agenda.now.states c.args.place c.requires.queued in
    let gone : IsRun c.args.network.now c.args.store.now c.run.new.store c.retire.new.self.states =
    ran_gone c.args.network.now c.args.store.now c.run.new.store c.args.agenda.now.states c.retire.new.self.states c.args.place said.0 c.run.ensures.run said.1 within said.2 c.retire.ensures.states in
    let draining : IsDraining c.args.network.now.wakes c.run.new.store c.retire.new.self c.drain-in-Subsumed.new.store c.drain-in-Subsumed.new.agenda =
    subst (λ (w : Waking). IsDraining w c.run.new.store c.retire.new.self c.drain-in-Subsumed.new.store c.drain-in-Subsumed.new.agenda) c.wakes-in-Subsumed.ensures.wakes c.drain-in-Subsumed.ensures.draining in
    let moved : HasMoved c.args.store.now c.args.agenda.now.states c.run.new.store c.retire.new.self.states =
    moved_set c.args.store.now c.run.new.store c.args.agenda.now.states c.retire.new.self.states c.args.place 2 c.run.ensures.falls c.requires.queued refl c.retire.ensures.states in
    let size : length c.retire.new.self.states ≡ length c.args.agenda.now.states = gone.alive.settled.size ∙ sym c.requires.alive.settled.size in
    (c.in_ok-drain-in-Subsumed.ensures.drained, work_falls c.args.network.now.wakes c.args.store.now c.run.new.store c.drain-in-Subsumed.new.store c.args.agenda.now.states c.retire.new.self c.drain-in-Subsumed.new.agenda moved size c.requires.drained draining)

pub returns-in_err-drain_but-in-Fix-clause-told : goal.returns-in_err-drain_but-in-Fix-clause-told
returns-in_err-drain_but-in-Fix-clause-told c = subst (λ (ds : List (List (ℤ × ℤ))). AreTold c.args.network.now.sayings c.run.new.kept ds) (sym c.drain_but.ensures.draining.doms) c.run.ensures.told

pub returns-in_ok-drain_but-in-Fix-clause-told : goal.returns-in_ok-drain_but-in-Fix-clause-told
returns-in_ok-drain_but-in-Fix-clause-told c = subst (λ (ds : List (List (ℤ × ℤ))). AreTold c.args.network.now.sayings c.run.new.kept ds) (sym c.drain_but.ensures.draining.doms) c.run.ensures.told

pub returns-in_err-drain-in-NoFix-clause-told : goal.returns-in_err-drain-in-NoFix-clause-told
returns-in_err-drain-in-NoFix-clause-told c = subst (λ (ds : List (List (ℤ × ℤ))). AreTold c.args.network.now.sayings c.run.new.kept ds) (sym c.drain.ensures.draining.doms) c.run.ensures.told

pub returns-in_ok-drain-in-NoFix-clause-told : goal.returns-in_ok-drain-in-NoFix-clause-told
returns-in_ok-drain-in-NoFix-clause-told c = subst (λ (ds : List (List (ℤ × ℤ))). AreTold c.args.network.now.sayings c.run.new.kept ds) (sym c.drain.ensures.draining.doms) c.run.ensures.told

pub returns-in_err-drain-in-Subsumed-clause-told : goal.returns-in_err-drain-in-Subsumed-clause-told
returns-in_err-drain-in-Subsumed-clause-told c = subst (λ (ds : List (List (ℤ × ℤ))). AreTold c.args.network.now.sayings c.run.new.kept ds) (sym c.drain-in-Subsumed.ensures.draining.doms) c.run.ensures.told

pub returns-in_ok-drain-in-Subsumed-clause-told : goal.returns-in_ok-drain-in-Subsumed-clause-told
returns-in_ok-drain-in-Subsumed-clause-told c = subst (λ (ds : List (List (ℤ × ℤ))). AreTold c.args.network.now.sayings c.run.new.kept ds) (sym c.drain-in-Subsumed.ensures.draining.doms) c.run.ensures.told
