use Rattle.std.proofs.Common.{rules}
use Rattle.std.proofs.Math.Facts.{to_z-of_z}
use mir.Val.{SFits}
use mir.Syntax.{w32}
use Rattle.fz_spec.specs.Truth.{Automaton}
use Rattle.fz_regular.proofs.Leading.{next_by}
use Rattle.fz_regular.proofs.automaton.Automaton.next.Goals as goal

pub returns : goal.returns
returns c =
    let p = c.self.inside in
    let m : Automaton = record { states = p.states; symbols = p.symbols; next = p.next.items; start = p.start; accepting = p.accepting } in
    let states : SFits w32 p.states = search rules in
    let symbols : SFits w32 p.symbols = search rules in
    rw (← c.self.view_is) (next_by m c.args.state c.args.symbol c.next_of.result (rw (c.deref.ensures.value, to_z-of_z states, to_z-of_z symbols) at c.next_of.ensures))
