use Rattle.std.proofs.Common.{◌≡◌, ◌<◌, length, ap, sym, subst, rules}
use Rattle.std.specs.Vec.{vec_len}
use Rattle.fz_machine.specs.declared.event.Event.TheVariants as event
use Rattle.fz_path.specs.Paths.{bare}
use Rattle.fz_machine.specs.Cores.{Core, CoreLaw}
use Rattle.fz_machine.proofs.Keeping.{event_keeps}
use Rattle.fz_machine.proofs.AsCode.{on_err, learn_code, unlearned_code, learns_within, learns_recorded}
use Rattle.fz_machine.proofs.machine.Machine.learn.Goals as goal

pub bounds-recorded-number : goal.bounds-recorded-number
bounds-recorded-number g c =
    let s : Core = record { workers = c.self.inside.workers.items; book = c.self.inside.book.book } in
    learns_recorded s c.args.self.now c.args.worker c.args.number c.recorded.result.now c.self.view_is c.requires (c.recorded.ensures.whole c.self.inside.whole)

pub index_mut-requires : goal.index_mut-requires
index_mut-requires g c =
    let s : Core = record { workers = c.self.inside.workers.items; book = c.self.inside.book.book } in
    let long : vec_len c.self.inside.workers ≡ length c.self.inside.workers.items = search rules in
    subst (λ n. c.args.worker < n) (sym long) (learns_within s c.args.self.now c.args.worker c.args.number c.self.view_is c.requires)

pub returns-in_err-learned-clause-err : goal.returns-in_err-learned-clause-err
returns-in_err-learned-clause-err g c =
    let s : Core = record { workers = c.self.inside.workers.items; book = c.self.inside.book.book } in
    on_err c.from_residual.result _ (unlearned_code s c.args.self.now c.args.worker c.index_mut.result.now (bare c.behind-self.inside.path) (bare c.learn.new.self) c.behind-self.inside.hand c.self.view_is c.index_mut.ensures.value c.behind-self.view_is (ap bare c.in_err-learned.ensures.err))

pub invariant_of-self-2 : goal.invariant_of-self-2
invariant_of-self-2 g c =
    let s : Core = record { workers = c.self.inside.workers.items; book = c.self.inside.book.book } in
    event_keeps (event.Learn c.args.worker c.args.number) c.outcome_of_learned.result c.args.self.now _ (subst CoreLaw c.self.view_is c.self.invariant)
    (learn_code s c.args.self.now c.args.worker c.args.number c.index_mut.result.now (bare c.behind-self.inside.path) (bare c.learn.new.self) c.behind-self.inside.hand c.recorded.result.now c.index-recorded-number.result c.in_ok-learned.learned c.outcome_of_learned.result c.self.view_is c.requires c.index_mut.ensures.value c.behind-self.view_is (c.recorded.ensures.whole c.self.inside.whole) c.index-recorded-number.is c.in_ok-learned.ensures.ok (sym c.outcome_of_learned.ensures))

pub returns-clause-ok : goal.returns-clause-ok
returns-clause-ok g c =
    let s : Core = record { workers = c.self.inside.workers.items; book = c.self.inside.book.book } in
    learn_code s c.args.self.now c.args.worker c.args.number c.index_mut.result.now (bare c.behind-self.inside.path) (bare c.learn.new.self) c.behind-self.inside.hand c.recorded.result.now c.index-recorded-number.result c.in_ok-learned.learned c.outcome_of_learned.result c.self.view_is c.requires c.index_mut.ensures.value c.behind-self.view_is (c.recorded.ensures.whole c.self.inside.whole) c.index-recorded-number.is c.in_ok-learned.ensures.ok (sym c.outcome_of_learned.ensures)
