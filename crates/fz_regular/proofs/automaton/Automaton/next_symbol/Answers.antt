use Rattle.std.proofs.Common.{ℕ}
use Rattle.fz_spec.specs.Truth.{Automaton, IsState}
use Rattle.fz_regular.specs.BitRows.{HaveBoth}
use Rattle.fz_regular.specs.Runs.{LeadsBy, number}
use Rattle.fz_regular.proofs.Words.{next_as}
use Rattle.fz_regular.proofs.automaton.Automaton.next_symbol.Goals as goal

pub next_common-requires-clause-there : goal.next_common-requires-clause-there
next_common-requires-clause-there c = c.self.invariant.rows c.args.state (rw (← c.self.view_is) at c.requires.state)

pub returns : goal.returns
returns c =
    let p = c.self.inside in
    let m : Automaton = record { states = p.states; symbols = p.symbols; next = p.next.items; start = p.start; accepting = p.accepting } in
    let row = c.args.symbols.now in
    let state : IsState m (number c.args.state) = rw (← c.self.view_is) at c.requires.state in
    let same = λ (k : ℕ). c.self.invariant.symbols c.args.state k state in
    rw (← c.self.view_is)
    (next_as (HaveBoth row c.args.row p.leading c.args.state) (LeadsBy m row c.args.row c.args.state) c.args.from c.next_common.result
    (λ k. ((λ h. (h.0, (same k).0 h.1)), (λ h. (h.0, (same k).1 h.1)))) c.next_common.ensures)
