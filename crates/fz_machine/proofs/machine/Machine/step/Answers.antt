use Rattle.std.proofs.Common.{◌∙◌, arith, sym}
use Rattle.fz_path.specs.Paths.{bare}
use Rattle.fz_machine.specs.Cores.{Core}
use Rattle.fz_machine.proofs.AsCode.{on_err, steps_within, step_code, stay_code, never_idle, step_law}
use Rattle.fz_machine.proofs.machine.Machine.step.Goals as goal

pub index_mut-requires : goal.index_mut-requires
index_mut-requires g c =
    let s : Core = record { workers = c.self.inside.workers.items; book = c.self.inside.book.book } in
    omega (arith, steps_within s c.args.self.now c.args.worker c.self.view_is c.requires, c.self.inside.workers.ok.0)

pub invariant_of-self : goal.invariant_of-self
invariant_of-self g c =
    let s : Core = record { workers = c.self.inside.workers.items; book = c.self.inside.book.book } in
    step_law s c.args.self.now c.args.worker c.index_mut.result.now (bare c.behind-self.inside.path) (bare c.step.new.self) c.behind-self.inside.hand c.step.result c.self.invariant c.self.view_is c.requires c.index_mut.ensures.value c.behind-self.view_is c.step.ensures.ok c.step.ensures.falls c.step.ensures.err c.step.ensures.rest

pub returns-in_err-step-clause-err : goal.returns-in_err-step-clause-err
returns-in_err-step-clause-err g c =
    let s : Core = record { workers = c.self.inside.workers.items; book = c.self.inside.book.book } in
    on_err c.from_residual.result _ (stay_code s c.args.self.now c.args.worker c.index_mut.result.now (bare c.behind-self.inside.path) (bare c.step.new.self) c.behind-self.inside.hand c.self.view_is c.requires c.index_mut.ensures.value c.behind-self.view_is c.in_err-step.ensures.err c.in_err-step.ensures.rest)

pub unreachable-requires : goal.unreachable-requires
unreachable-requires g c =
    let s : Core = record { workers = c.self.inside.workers.items; book = c.self.inside.book.book } in
    never_idle s c.args.self.now c.args.worker c.index_mut.result.now (bare c.behind-self.inside.path) (bare c.step.new.self) c.behind-self.inside.hand c.in_ok-step.step c.self.view_is c.requires c.index_mut.ensures.value c.behind-self.view_is c.in_ok-step.ensures.ok (sym c.outcome_of_step.ensures ∙ c.in_default.is)

pub returns-clause-ok : goal.returns-clause-ok
returns-clause-ok g c =
    let s : Core = record { workers = c.self.inside.workers.items; book = c.self.inside.book.book } in
    step_code s c.args.self.now c.args.worker c.index_mut.result.now (bare c.behind-self.inside.path) (bare c.step.new.self) c.behind-self.inside.hand c.in_ok-step.step c.in-Some.outcome c.self.view_is c.requires c.index_mut.ensures.value c.behind-self.view_is c.in_ok-step.ensures.ok c.in_ok-step.ensures.falls c.in_ok-step.ensures.rest (sym c.outcome_of_step.ensures ∙ c.in-Some.is)
