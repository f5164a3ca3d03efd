use Rattle.std.proofs.Common.{◌∙◌, arith, refl, subst, sym}
use Rattle.fz_machine.specs.declared.event.Event.TheVariants as event
use Rattle.fz_machine.specs.declared.event.Outcome.TheVariants.{Moved}
use Rattle.fz_machine.specs.Cores.{Core, CoreLaw}
use Rattle.fz_machine.proofs.Keeping.{event_keeps}
use Rattle.fz_machine.proofs.AsCode.{on_err, reports_within, report_holds, report_can, report_code, unchanged_code}
use Rattle.fz_machine.proofs.machine.Machine.report.Goals as goal

pub index_mut-requires : goal.index_mut-requires
index_mut-requires g c =
    let s : Core = record { workers = c.self.inside.workers.items; book = c.self.inside.book.book } in
    omega (arith, reports_within s c.args.self.now c.args.worker c.self.view_is c.requires, c.self.inside.workers.ok.0)

pub report-requires-clause-holds : goal.report-requires-clause-holds
report-requires-clause-holds g c =
    let s : Core = record { workers = c.self.inside.workers.items; book = c.self.inside.book.book } in
    report_holds s c.args.self.now c.args.worker c.index_mut.result.now c.self.view_is c.requires c.index_mut.ensures.value

pub report-requires-clause-reportable : goal.report-requires-clause-reportable
report-requires-clause-reportable g c =
    let s : Core = record { workers = c.self.inside.workers.items; book = c.self.inside.book.book } in
    report_can s c.args.self.now c.args.worker c.index_mut.result.now c.self.invariant c.self.view_is c.requires c.index_mut.ensures.value

pub returns-in_err-report-clause-err : goal.returns-in_err-report-clause-err
returns-in_err-report-clause-err g c =
    let s : Core = record { workers = c.self.inside.workers.items; book = c.self.inside.book.book } in
    on_err c.from_residual.result _ (unchanged_code s c.args.self.now c.args.worker c.index_mut.result.now c.report.new.self c.report.new.book.book c.self.view_is c.index_mut.ensures.value c.in_err-report.ensures.same c.in_err-report.ensures.book)

pub invariant_of-self : goal.invariant_of-self
invariant_of-self g c =
    let s : Core = record { workers = c.self.inside.workers.items; book = c.self.inside.book.book } in
    subst CoreLaw (c.self.view_is ∙ sym (unchanged_code s c.args.self.now c.args.worker c.index_mut.result.now c.report.new.self c.report.new.book.book c.self.view_is c.index_mut.ensures.value c.in_err-report.ensures.same c.in_err-report.ensures.book)) c.self.invariant

pub invariant_of-self-2 : goal.invariant_of-self-2
invariant_of-self-2 g c =
    let s : Core = record { workers = c.self.inside.workers.items; book = c.self.inside.book.book } in
    event_keeps (event.Report c.args.worker) Moved c.args.self.now _ (subst CoreLaw c.self.view_is c.self.invariant)
    (refl, report_code s c.args.self.now c.args.worker c.index_mut.result.now c.report.new.self c.report.new.book.book c.self.view_is c.requires c.index_mut.ensures.value c.in_ok-report.ensures.reported)

pub returns-clause-ok : goal.returns-clause-ok
returns-clause-ok g c =
    let s : Core = record { workers = c.self.inside.workers.items; book = c.self.inside.book.book } in
    (refl, report_code s c.args.self.now c.args.worker c.index_mut.result.now c.report.new.self c.report.new.book.book c.self.view_is c.requires c.index_mut.ensures.value c.in_ok-report.ensures.reported)
