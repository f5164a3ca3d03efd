use Rattle.std.proofs.Common.{refl, subst}
use Rattle.fz_machine.specs.declared.event.Event.TheVariants as event
use Rattle.fz_machine.specs.declared.event.Outcome.TheVariants.{Moved}
use Rattle.fz_path.specs.Paths.{bare}
use Rattle.fz_machine.specs.Cores.{Core, CoreLaw}
use Rattle.fz_machine.proofs.Keeping.{event_keeps}
use Rattle.std.proofs.Common.{arith}
use Rattle.fz_machine.proofs.AsCode.{on_err, steal_within, thief_within, steal_can, steal_reports, steal_code, unchanged_code}
use Rattle.fz_machine.proofs.machine.Machine.steal.Goals as goal

pub index_mut-requires : goal.index_mut-requires
index_mut-requires g c =
    let s : Core = record { workers = c.self.inside.workers.items; book = c.self.inside.book.book } in
    omega (arith, steal_within s c.args.self.now c.args.victim c.args.thief c.self.view_is c.requires, c.self.inside.workers.ok.0)

pub index_mut-requires-2 : goal.index_mut-requires-2
index_mut-requires-2 g c =
    let s : Core = record { workers = c.self.inside.workers.items; book = c.self.inside.book.book } in
    omega (arith, thief_within s c.args.self.now c.args.victim c.args.thief c.self.view_is c.requires, c.self.inside.workers.ok.0)

pub cut-requires-clause-can : goal.cut-requires-clause-can
cut-requires-clause-can g c =
    let s : Core = record { workers = c.self.inside.workers.items; book = c.self.inside.book.book } in
    steal_can s c.args.self.now c.args.victim c.args.thief c.index_mut.result.now c.self.view_is c.requires c.index_mut.ensures.value

pub cut-requires-clause-reportable : goal.cut-requires-clause-reportable
cut-requires-clause-reportable g c =
    let s : Core = record { workers = c.self.inside.workers.items; book = c.self.inside.book.book } in
    steal_reports s c.args.self.now c.args.victim c.args.thief c.index_mut.result.now c.self.invariant c.self.view_is c.requires c.index_mut.ensures.value

pub returns-in_err-task-clause-err : goal.returns-in_err-task-clause-err
returns-in_err-task-clause-err g c =
    let s : Core = record { workers = c.self.inside.workers.items; book = c.self.inside.book.book } in
    on_err c.from_residual.result _ (unchanged_code s c.args.self.now c.args.victim c.index_mut.result.now c.cut.new.self c.cut.new.book.book c.self.view_is c.index_mut.ensures.value c.in_err-task.ensures.same c.in_err-task.ensures.book)

pub invariant_of-self-2 : goal.invariant_of-self-2
invariant_of-self-2 g c =
    let s : Core = record { workers = c.self.inside.workers.items; book = c.self.inside.book.book } in
    event_keeps (event.Steal c.args.victim c.args.thief) Moved c.args.self.now _ (subst CoreLaw c.self.view_is c.self.invariant)
    (refl, steal_code s c.args.self.now c.args.victim c.args.thief c.index_mut.result.now c.cut.new.self c.index_mut-2.result.now (bare c.behind-self.inside.path) c.behind-self.inside.hand c.in_ok-task.task c.cut.new.book.book c.self.view_is c.requires c.index_mut.ensures.value c.in_ok-task.ensures.cut c.index_mut-2.ensures.value c.behind-self.view_is)

pub returns-clause-ok : goal.returns-clause-ok
returns-clause-ok g c =
    let s : Core = record { workers = c.self.inside.workers.items; book = c.self.inside.book.book } in
    (refl, steal_code s c.args.self.now c.args.victim c.args.thief c.index_mut.result.now c.cut.new.self c.index_mut-2.result.now (bare c.behind-self.inside.path) c.behind-self.inside.hand c.in_ok-task.task c.cut.new.book.book c.self.view_is c.requires c.index_mut.ensures.value c.in_ok-task.ensures.cut c.index_mut-2.ensures.value c.behind-self.view_is)
