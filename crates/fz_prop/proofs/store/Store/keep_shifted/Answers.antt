use Rattle.std.proofs.Common.{◌≡◌, ◌<◌, ◌∙◌, [], length, subst}
use Rattle.std.proofs.Math.Facts.{to_z-of_z}
use Rattle.std.specs.Prelude.{ℤ, ◌-ℤ◌, slice_set}
use Rattle.fz_sets.specs.Sets.{IsInSet}
use Rattle.fz_sets.proofs.Lists.{same_at}
use Rattle.fz_strength.specs.Domains.{dom_at}
use Rattle.fz_prop.specs.Stores.{IsCut}
use Rattle.fz_prop.proofs.Steps.{IsKeptChange, kept_change}
use Rattle.fz_prop.proofs.store.Store.keep_shifted.Goals as goal

stepped : (c : goal.After-note)
    → IsKeptChange c.in_ok-change.change c.self.inside.doms.items (slice_set c.self.inside.doms.items c.args.variable c.cut_to.new.dom) c.self.inside.marks.items c.note.new.marks.items
    c.self.inside.changed.items c.note.new.changed.items c.self.inside.head c.args.variable (λ x. IsInSet c.args.other.now (x -ℤ c.args.shift))
stepped c =
    let fits = c.ranges.shift in
    let within : c.args.variable < length c.self.inside.doms.items = rw (← c.self.view_is) at c.requires in
    let at : c.index_mut.result.now ≡ dom_at c.self.inside.doms.items c.args.variable =
    c.index_mut.ensures.value ∙ same_at c.self.inside.doms.items c.args.variable c.index_mut.result.now [] within in
    let cut : IsCut c.in_ok-change.change c.in_ok-change.level (λ x. IsInSet c.args.other.now (x -ℤ c.args.shift)) (dom_at c.self.inside.doms.items c.args.variable) c.cut_to.new.dom =
    subst (λ (k : ℤ). IsCut c.in_ok-change.change c.in_ok-change.level (λ x. IsInSet c.args.other.now (x -ℤ k)) (dom_at c.self.inside.doms.items c.args.variable) c.cut_to.new.dom)
    (to_z-of_z fits) (rw at at c.in_ok-change.ensures.cut) in
    kept_change c.in_ok-change.change c.self.inside.doms.items c.self.inside.marks.items c.note.new.marks.items c.self.inside.changed.items c.reserve.new.self.items c.note.new.changed.items c.self.inside.head
    c.args.variable c.in_ok-change.level c.cut_to.new.dom (λ x. IsInSet c.args.other.now (x -ℤ c.args.shift)) c.self.invariant.0 (c.self.invariant.1, c.self.invariant.2) within cut c.cut_to.ensures.domain c.reserve.ensures.items c.note.ensures

pub invariant_of-self-2 : goal.invariant_of-self-2
invariant_of-self-2 c = ((stepped c).store, (stepped c).head, (stepped c).few)

pub returns-clause-shrinks : goal.returns-clause-shrinks
returns-clause-shrinks c = rw (← c.self.view_is) (stepped c).shrinks

pub returns-clause-change : goal.returns-clause-change
returns-clause-change c = rw (← c.self.view_is) (stepped c).is
