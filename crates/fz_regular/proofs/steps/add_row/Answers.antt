use Rattle.std.proofs.Common.{◌≡◌, ℕ, arith, pos, to_z, of_z, w32}
use Rattle.std.proofs.Math.Facts.{to_z-of_z}
use Rattle.fz_sets.specs.Sets.{IsInRange}
use Rattle.fz_regular.specs.BitRows.{Has}
use Rattle.fz_regular.specs.Runs.{LeadsOn, automaton_of, number}
use Rattle.fz_regular.proofs.Gathering.{gathered_more}
use Rattle.fz_regular.proofs.Layers.{alike_twice}
use Rattle.fz_regular.proofs.Leading.{next_self, row_all}
use Rattle.fz_regular.proofs.steps.add_row.Goals as goal

pub loop-symbol-preserved : goal.loop-symbol-preserved
loop-symbol-preserved c =
    let m = automaton_of (to_z w32 (of_z w32 c.args.states)) (to_z w32 (of_z w32 c.args.symbols)) c.args.next.now in
    let state = c.args.state in
    let symbols : ℕ → Type 0 = λ k. IsInRange (pos 1, m.symbols) (number k) in
    let adds : ℕ → ℕ → ℕ → Type 0 = λ s i k. (i ≡ state) × (k ≡ s) × LeadsOn m state s in
    let leading = c.args.leading.now in
    let old = c.loop-symbol.leading in
    let new = c.add_leading.new.leading in
    let symbol = c.loop-symbol.symbol in
    record {
      alike = alike_twice leading old new c.loop-symbol.invariant.alike (record { width = c.add_leading.ensures.width; size = c.add_leading.ensures.size });
      gathered = gathered_more symbols adds (Has leading) (Has old) (Has new) symbol symbol (next_self symbols symbol ((c.count_to-count.ensures.count symbol).1 c.loop-symbol-test.true)) c.add_leading.ensures.added
          c.loop-symbol.invariant.gathered;
    }

pub returns-clause-added : goal.returns-clause-added
returns-clause-added c =
    let m = automaton_of (to_z w32 (of_z w32 c.args.states)) (to_z w32 (of_z w32 c.args.symbols)) c.args.next.now in
    let end = c.loop-symbol-test.false in
    rw (to_z-of_z c.ranges.states, to_z-of_z c.ranges.symbols) at
    (row_all m c.args.state c.loop-symbol.symbol c.count_to-count.result (Has c.args.leading.now) (Has c.loop-symbol.leading) c.count_to-count.ensures.count (omega (arith, end)) c.loop-symbol.invariant.gathered)
