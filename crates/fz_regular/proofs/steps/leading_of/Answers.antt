use Rattle.std.proofs.Common.{arith, to_z, of_z, w32}
use Rattle.std.proofs.Math.Facts.{to_z-of_z}
use Rattle.fz_regular.specs.Runs.{automaton_of}
use Rattle.fz_regular.proofs.Layers.{alike_twice, row_alike}
use Rattle.fz_regular.proofs.Leading.{leading_more, leading_all}
use Rattle.fz_regular.proofs.steps.leading_of.Goals as goal

pub add_row-requires-clause-row : goal.add_row-requires-clause-row
add_row-requires-clause-row c =
    let state = c.loop-state.state in
    row_alike c.in_ok-leading.leading c.loop-state.leading state c.loop-state.invariant.alike (c.in_ok-leading.ensures.rows state c.loop-state-test.true)

pub loop-state-preserved : goal.loop-state-preserved
loop-state-preserved c =
    let m = automaton_of (to_z w32 (of_z w32 c.args.states)) (to_z w32 (of_z w32 c.args.symbols)) c.args.next.now in
    let old = c.loop-state.leading in
    let new = c.add_row.new.leading in
    record {
      alike = alike_twice c.in_ok-leading.leading old new c.loop-state.invariant.alike (record { width = c.add_row.ensures.width; size = c.add_row.ensures.size });
      leading = leading_more m old new c.loop-state.state c.add_row.ensures.added c.loop-state.invariant.leading;
    }

pub returns : goal.returns
returns c =
    let m = automaton_of (to_z w32 (of_z w32 c.args.states)) (to_z w32 (of_z w32 c.args.symbols)) c.args.next.now in
    let end = c.loop-state-test.false in
    let now = c.loop-state.leading in
    rw (to_z-of_z c.ranges.states, to_z-of_z c.ranges.symbols) at
    (leading_all m now c.loop-state.state c.count_to-count.result c.count_to-count.ensures.count (omega (arith, end))
    (λ p below. row_alike c.in_ok-leading.leading now p c.loop-state.invariant.alike (c.in_ok-leading.ensures.rows p below)) c.loop-state.invariant.leading)
