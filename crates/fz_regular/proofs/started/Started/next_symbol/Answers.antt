use Rattle.fz_regular.specs.Runs.{number}
use Rattle.fz_regular.proofs.Fronts.{symbol_started}
use Rattle.fz_regular.proofs.started.Started.next_symbol.Goals as goal

pub returns : goal.returns
returns c =
    rw (← c.self.view_is)
    (symbol_started c.self.inside.automaton.now (number c.self.inside.start) c.args.symbols.now c.args.row c.args.state c.args.from c.next_symbol.result c.next_symbol.ensures)
