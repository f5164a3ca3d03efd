use Rattle.std.specs.Prelude.{ℤ, ◌-ℤ◌, ◌↔◌}
use Rattle.std.proofs.lemmas.Result.{IfOk-weaker}
use Rattle.std.proofs.Math.Facts.{to_z-of_z}
use Rattle.fz_sets.specs.Sets.{IsInSet}
use Rattle.fz_bits.specs.Windows.{IsBit}
use Rattle.fz_dom.specs.declared.change.Change.{Change}
use Rattle.fz_dom.proofs.Kept.{limits_of}
use Rattle.fz_strength.specs.Domains.{dom_at}
use Rattle.fz_prop.specs.Stores.{IsChangeAt}
use Rattle.fz_prop.proofs.Steps.{change_at_as}
use Rattle.fz_prop.proofs.store.Store.keep_partners.Goals as goal

pub returns-in-Some-clause-change : goal.returns-in-Some-clause-change
returns-in-Some-clause-change c =
    let s = c.args.self.now in
    let v = c.args.variable in
    let w = c.in-Some.window in
    let others = dom_at s.doms c.args.other in
    let numbers : (x : ℤ) → IsInSet (dom_at s.doms v) x → IsBit w.base w.bits x ↔ IsInSet others (x -ℤ c.args.shift) = λ x i.
    rw (c.dom-others.ensures.dom, to_z-of_z c.ranges.shift) at (c.in-Some.ensures.numbers x (limits_of (dom_at s.doms v) x (c.dom-others.ensures.store.domains v c.requires.variable).0 i)) in
    IfOk-weaker c.keep_window.result (λ (r : Change). IsChangeAt r v (λ x. IsBit w.base w.bits x) s c.keep_window.new.self)
    (λ (r : Change). IsChangeAt r v (λ x. IsInSet others (x -ℤ c.args.shift)) s c.keep_window.new.self)
    (λ r h. change_at_as r v (λ x. IsBit w.base w.bits x) (λ x. IsInSet others (x -ℤ c.args.shift)) s c.keep_window.new.self numbers h) c.keep_window.ensures.change

pub returns-clause-change : goal.returns-clause-change
returns-clause-change c = rw (c.in_ok-others.ensures.same, c.dom-others.ensures.dom, to_z-of_z c.ranges.shift) at c.keep_shifted.ensures.change
