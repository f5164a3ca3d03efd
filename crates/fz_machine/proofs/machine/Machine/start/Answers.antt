use Rattle.std.proofs.Common.{◌∙◌, arith, refl, subst, sym}
use Rattle.fz_machine.specs.declared.event.Event.TheVariants as event
use Rattle.fz_machine.specs.declared.event.Outcome.TheVariants.{Moved}
use Rattle.fz_machine.specs.Cores.{Core, CoreLaw}
use Rattle.fz_machine.proofs.Keeping.{event_keeps}
use Rattle.fz_machine.proofs.AsCode.{on_err, starts_within, start_ready, start_code, unchanged_code}
use Rattle.fz_machine.proofs.machine.Machine.start.Goals as goal

pub index_mut-requires : goal.index_mut-requires
index_mut-requires g c =
    let s : Core = record { workers = c.self.inside.workers.items; book = c.self.inside.book.book } in
    omega (arith, starts_within s c.args.self.now c.args.worker c.self.view_is c.requires, c.self.inside.workers.ok.0)

pub start-requires-clause-idle : goal.start-requires-clause-idle
start-requires-clause-idle g c =
    let s : Core = record { workers = c.self.inside.workers.items; book = c.self.inside.book.book } in
    (start_ready s c.args.self.now c.args.worker c.index_mut.result.now c.self.view_is c.requires c.index_mut.ensures.value).0

pub start-requires-clause-full : goal.start-requires-clause-full
start-requires-clause-full g c =
    let s : Core = record { workers = c.self.inside.workers.items; book = c.self.inside.book.book } in
    (start_ready s c.args.self.now c.args.worker c.index_mut.result.now c.self.view_is c.requires c.index_mut.ensures.value).1

pub returns-in_err-start-clause-err : goal.returns-in_err-start-clause-err
returns-in_err-start-clause-err g c =
    let s : Core = record { workers = c.self.inside.workers.items; book = c.self.inside.book.book } in
    on_err c.from_residual.result _ (unchanged_code s c.args.self.now c.args.worker c.index_mut.result.now c.start.new.self c.self.inside.book.book c.self.view_is c.index_mut.ensures.value c.in_err-start.ensures.err refl)

pub invariant_of-self : goal.invariant_of-self
invariant_of-self g c =
    let s : Core = record { workers = c.self.inside.workers.items; book = c.self.inside.book.book } in
    subst CoreLaw (c.self.view_is ∙ sym (unchanged_code s c.args.self.now c.args.worker c.index_mut.result.now c.start.new.self c.self.inside.book.book c.self.view_is c.index_mut.ensures.value c.in_err-start.ensures.err refl)) c.self.invariant

pub invariant_of-self-2 : goal.invariant_of-self-2
invariant_of-self-2 g c =
    let s : Core = record { workers = c.self.inside.workers.items; book = c.self.inside.book.book } in
    event_keeps (event.Start c.args.worker) Moved c.args.self.now _ (subst CoreLaw c.self.view_is c.self.invariant)
    (refl, start_code s c.args.self.now c.args.worker c.index_mut.result.now c.start.new.self c.self.view_is c.requires c.index_mut.ensures.value c.in_ok-start.ensures.started)

pub returns-clause-ok : goal.returns-clause-ok
returns-clause-ok g c =
    let s : Core = record { workers = c.self.inside.workers.items; book = c.self.inside.book.book } in
    (refl, start_code s c.args.self.now c.args.worker c.index_mut.result.now c.start.new.self c.self.view_is c.requires c.index_mut.ensures.value c.in_ok-start.ensures.started)
