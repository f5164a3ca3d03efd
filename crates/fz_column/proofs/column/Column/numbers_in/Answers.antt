use Rattle.std.proofs.Common.{◌≡◌, ℤ, List, length, rules, sym, subst, ◌∙◌, to_z, of_z, w32}
use Rattle.fz_column.specs.declared.supports.Support.{Support}
use Rattle.fz_column.specs.Supports.{AreSized}
use Rattle.fz_column.specs.Packed.{ArePacked}
use Rattle.std.proofs.lemmas.Result.{IfOk-weaker}
use Rattle.fz_sets.specs.Sets.{IsInSet}
use Rattle.fz_column.proofs.Packing.{numbers_of_column}
use Rattle.fz_column.proofs.Finding.{gathering_more}
use Rattle.fz_column.proofs.Walking.{ahead_more, range_stands, added_range}
use Rattle.fz_column.proofs.column.Column.numbers_in.Goals as goal

pub add_numbers-requires-clause-sized : goal.add_numbers-requires-clause-sized
add_numbers-requires-clause-sized c =
    subst (λ (xs : List Support). AreSized xs (length c.args.rows.now)) (sym (c.deref-in-loop-low.ensures.value ∙ c.self.view_is)) c.requires

pub loop-low-preserved : goal.loop-low-preserved
loop-low-preserved c =
    let column = c.args.self.now in
    let rows = c.args.rows.now in
    let ranges = c.loop-low.low-iterator in
    let tail = c.next.new.self in
    let r : ℤ × ℤ = (c.in-Some-2.low, c.in-Some-2.high) in
    let kept_low : to_z w32 (of_z w32 c.in-Some-2.low) ≡ c.in-Some-2.low = search rules in
    let kept_high : to_z w32 (of_z w32 c.in-Some-2.high) ≡ c.in-Some-2.high = search rules in
    let here : c.deref.result.now ≡ column = c.deref.ensures.value ∙ c.self.view_is in
    let there : c.deref-in-loop-low.result.now ≡ column = c.deref-in-loop-low.ensures.value ∙ c.self.view_is in
    let first = rw (kept_low, here) at c.first_from-first.ensures in
    let end = rw (kept_high, there) at c.in_ok-place.ensures.end in
    let added = rw there at c.in_ok-place.ensures.numbers in
    let stands = range_stands column c.loop-low.place c.first_from-first.result c.in_ok-place.place ranges tail r rows c.in-Some-2.ensures.steps first end c.loop-low.invariant.1 in (
      gathering_more column rows c.args.dom.now ranges tail r c.loop-low.numbers c.add_numbers.new.numbers c.in-Some-2.ensures.steps
          (added_range column rows c.loop-low.numbers c.add_numbers.new.numbers r c.first_from-first.result c.in_ok-place.place added stands) c.loop-low.invariant.0,
      ahead_more column c.loop-low.place c.first_from-first.result c.in_ok-place.place ranges tail r c.in-Some-2.ensures.steps first end c.loop-low.invariant.1,
    )

pub numbers_in-requires-clause-whole : goal.numbers_in-requires-clause-whole
numbers_in-requires-clause-whole c =
    let are : ArePacked c.args.self.now c.in-Some.packed.now = c.in-Some.ensures in
    are.whole

pub numbers_in-requires-clause-width : goal.numbers_in-requires-clause-width
numbers_in-requires-clause-width c =
    let are : ArePacked c.args.self.now c.in-Some.packed.now = c.in-Some.ensures in
    are.width (length c.args.rows.now) c.requires

pub returns-in-Some : goal.returns-in-Some
returns-in-Some c =
    let are : ArePacked c.args.self.now c.in-Some.packed.now = c.in-Some.ensures in
    IfOk-weaker c.numbers_in.result _ _ (λ s h. numbers_of_column c.args.self.now c.in-Some.packed.now c.args.rows.now (IsInSet c.args.dom.now) (IsInSet s) are h) c.numbers_in.ensures
