use Rattle.std.specs.Prelude.{ℤ, ◌↔◌}
use Rattle.std.proofs.lemmas.Result.{IfOk-weaker}
use Rattle.fz_bits.specs.Windows.{IsBit}
use Rattle.fz_sets.specs.Sets.{IsInSet, AreOneSet}
use Rattle.fz_dom.specs.declared.change.Change.{Change}
use Rattle.fz_strength.specs.Domains.{dom_at}
use Rattle.fz_prop.specs.Stores.{IsChangeAt}
use Rattle.fz_column.specs.Supports.{StandsIn}
use Rattle.fz_table.proofs.Keeping.{change_by, numbers_limits, numbers_same}
use Rattle.fz_table.proofs.keep.keep_column.Goals as goal

pub from_ranges-requires : goal.from_ranges-requires
from_ranges-requires c =
    let v = c.args.variable in
    let domain = (c.dom.ensures.store.domains v c.requires.variable).0 in
    rw c.as_slice.ensures.ranges
    (numbers_limits (dom_at c.args.store.now.doms v) c.in_ok-numbers.numbers (StandsIn c.args.column.now c.args.rows.now) domain c.as_slice.ensures.filled
    (rw c.dom.ensures.dom at c.in_ok-numbers.ensures))

pub returns-clause-change : goal.returns-clause-change
returns-clause-change c =
    let v = c.args.variable in
    let s = c.args.store.now in
    let t = c.keep.new.self in
    let stands = StandsIn c.args.column.now c.args.rows.now in
    let kept = c.in_ok-numbers-2.numbers in
    let one : AreOneSet kept c.in_ok-numbers.numbers = rw c.as_slice.ensures.ranges at c.in_ok-numbers-2.ensures.one_set in
    let same = numbers_same (dom_at s.doms v) c.in_ok-numbers.numbers kept stands one (rw c.dom.ensures.dom at c.in_ok-numbers.ensures) in
    IfOk-weaker c.keep.result (λ (r : Change). IsChangeAt r v (λ x. IsInSet kept x) s t) (λ (r : Change). IsChangeAt r v stands s t)
    (λ r h. change_by r v (λ x. IsInSet kept x) stands s t same h) c.keep.ensures.change

pub returns-in-Some-clause-change : goal.returns-in-Some-clause-change
returns-in-Some-clause-change c =
    let v = c.args.variable in
    let s = c.args.store.now in
    let t = c.keep_window.new.self in
    let stands = StandsIn c.args.column.now c.args.rows.now in
    let numbers = c.in-Some.numbers in
    let kept : ℤ → Type 0 = λ x. IsBit numbers.base numbers.bits x in
    let same : (x : ℤ) → IsInSet (dom_at s.doms v) x → kept x ↔ stands x = λ x is.
    ((λ h. ((c.in-Some.ensures.numbers x).0 h).1), (λ h. (c.in-Some.ensures.numbers x).1 (is, h))) in
    IfOk-weaker c.keep_window.result (λ (r : Change). IsChangeAt r v kept s t) (λ (r : Change). IsChangeAt r v stands s t)
    (λ r h. change_by r v kept stands s t same h) c.keep_window.ensures.change
