use Rattle.std.proofs.Math.Facts.{to_z-of_z}
use Rattle.fz_regular.specs.BitRows.{Has}
use Rattle.fz_regular.specs.Runs.{LeadsOn, automaton_of}
use Rattle.fz_regular.proofs.Gathering.{added_one, added_none}
use Rattle.fz_regular.proofs.steps.add_leading.Goals as goal

pub returns-in-Some-clause-added : goal.returns-in-Some-clause-added
returns-in-Some-clause-added c =
    let m = automaton_of c.args.states c.args.symbols c.args.next.now in
    let leads : LeadsOn m c.args.state c.args.symbol = (_, rw (to_z-of_z c.ranges.states, to_z-of_z c.ranges.symbols) at c.in-Some.ensures) in
    added_one (LeadsOn m c.args.state c.args.symbol) c.args.state c.args.symbol (Has c.args.leading.now) (Has c.insert.new.self) leads c.insert.ensures.bits

pub returns-in-None-clause-added : goal.returns-in-None-clause-added
returns-in-None-clause-added c =
    let m = automaton_of c.args.states c.args.symbols c.args.next.now in
    let none = rw (to_z-of_z c.ranges.states, to_z-of_z c.ranges.symbols) at c.in-None.ensures in
    added_none (LeadsOn m c.args.state c.args.symbol) c.args.state c.args.symbol (Has c.args.leading.now) (λ w. none w.0 w.1)
