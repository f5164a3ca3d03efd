use Rattle.std.proofs.Common.{◌≡◌, ◌<◌, ◌∙◌, [], length}
use Rattle.std.specs.Prelude.{slice_set}
use Rattle.fz_sets.proofs.Lists.{same_at}
use Rattle.fz_bits.specs.Windows.{IsBit}
use Rattle.fz_strength.specs.Domains.{dom_at}
use Rattle.fz_prop.specs.Stores.{IsCut}
use Rattle.fz_prop.proofs.Steps.{IsKeptChange, kept_change}
use Rattle.fz_prop.proofs.store.Store.keep_window.Goals as goal

stepped : (c : goal.After-note)
    → IsKeptChange c.cut_window-change.result.0 c.self.inside.doms.items (slice_set c.self.inside.doms.items c.args.variable c.cut_window-change.new.dom) c.self.inside.marks.items c.note.new.marks.items
    c.self.inside.changed.items c.note.new.changed.items c.self.inside.head c.args.variable (λ x. IsBit c.args.window.base c.args.window.bits x)
stepped c =
    let within : c.args.variable < length c.self.inside.doms.items = rw (← c.self.view_is) at c.requires.variable in
    let at : c.index_mut.result.now ≡ dom_at c.self.inside.doms.items c.args.variable =
    c.index_mut.ensures.value ∙ same_at c.self.inside.doms.items c.args.variable c.index_mut.result.now [] within in
    let cut : IsCut c.cut_window-change.result.0 c.cut_window-change.result.1 (λ x. IsBit c.args.window.base c.args.window.bits x) (dom_at c.self.inside.doms.items c.args.variable) c.cut_window-change.new.dom =
    rw at at c.cut_window-change.ensures.cut in
    kept_change c.cut_window-change.result.0 c.self.inside.doms.items c.self.inside.marks.items c.note.new.marks.items c.self.inside.changed.items c.reserve.new.self.items c.note.new.changed.items c.self.inside.head
    c.args.variable c.cut_window-change.result.1 c.cut_window-change.new.dom (λ x. IsBit c.args.window.base c.args.window.bits x) c.self.invariant.0 (c.self.invariant.1, c.self.invariant.2) within cut c.cut_window-change.ensures.domain c.reserve.ensures.items c.note.ensures

pub invariant_of-self-2 : goal.invariant_of-self-2
invariant_of-self-2 c = ((stepped c).store, (stepped c).head, (stepped c).few)

pub returns-clause-shrinks : goal.returns-clause-shrinks
returns-clause-shrinks c = rw (← c.self.view_is) (stepped c).shrinks

pub returns-clause-change : goal.returns-clause-change
returns-clause-change c = rw (← c.self.view_is) (stepped c).is
