use Rattle.std.proofs.Common.{to_z, of_z, w32}
use Rattle.fz_spec.specs.Truth.{Automaton}
use Rattle.fz_regular.proofs.Leading.{leading_by}
use Rattle.fz_regular.proofs.automaton.Automaton.new.Goals as goal

pub invariant_of-result : goal.invariant_of-result
invariant_of-result c =
    let m : Automaton = record {
      states = to_z w32 (of_z w32 c.args.states);
      symbols = to_z w32 (of_z w32 c.args.symbols);
      next = c.args.next.now;
      start = to_z w32 (of_z w32 c.args.start);
      accepting = c.in_ok-accepting.accepting;
    } in
    rw c.in_ok-next.ensures.items (leading_by m c.in_ok-leading.leading c.in_ok-leading.ensures)
