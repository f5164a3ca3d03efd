use Rattle.std.proofs.Common.{◌≡◌, ℤ, rules, ◌∙◌, to_z, of_z, w32}
use Rattle.fz_column.proofs.Finding.{joining_more}
use Rattle.fz_column.proofs.Walking.{ahead_more, range_joined, joined_range}
use Rattle.fz_column.proofs.column.Column.join_in.Goals as goal

pub join_to-place-requires-clause-sized : goal.join_to-place-requires-clause-sized
join_to-place-requires-clause-sized c =
    let there : c.deref-in-loop-low.result.now ≡ c.args.self.now = c.deref-in-loop-low.ensures.value ∙ c.self.view_is in
    rw (there, c.loop-low.invariant.0.size) c.requires

pub loop-low-preserved : goal.loop-low-preserved
loop-low-preserved c =
    let column = c.args.self.now in
    let ranges = c.loop-low.low-iterator in
    let tail = c.next.new.self in
    let r : ℤ × ℤ = (c.in-Some.low, c.in-Some.high) in
    let kept_low : to_z w32 (of_z w32 c.in-Some.low) ≡ c.in-Some.low = search rules in
    let kept_high : to_z w32 (of_z w32 c.in-Some.high) ≡ c.in-Some.high = search rules in
    let here : c.deref.result.now ≡ column = c.deref.ensures.value ∙ c.self.view_is in
    let there : c.deref-in-loop-low.result.now ≡ column = c.deref-in-loop-low.ensures.value ∙ c.self.view_is in
    let first = rw (kept_low, here) at c.first_from-first.ensures in
    let end = rw (kept_high, there) at c.join_to-place.ensures.end in
    let joined = rw there at c.join_to-place.ensures.rows in
    let same = range_joined column c.loop-low.place c.first_from-first.result c.join_to-place.result ranges tail r c.in-Some.ensures.steps first end c.loop-low.invariant.1 in (
      joining_more column c.args.dom.now ranges tail r c.args.rows.now c.loop-low.rows c.join_to-place.new.rows c.in-Some.ensures.steps
          (joined_range column c.loop-low.rows c.join_to-place.new.rows r c.first_from-first.result c.join_to-place.result joined same) c.join_to-place.ensures.size c.loop-low.invariant.0,
      ahead_more column c.loop-low.place c.first_from-first.result c.join_to-place.result ranges tail r c.in-Some.ensures.steps first end c.loop-low.invariant.1,
    )
