use Rattle.fz_regular.specs.Runs.{number}
use Rattle.fz_regular.proofs.Fronts.{next_started}
use Rattle.fz_regular.proofs.started.Started.next.Goals as goal

pub returns : goal.returns
returns c = rw (← c.self.view_is) (next_started c.self.inside.automaton.now (number c.self.inside.start) c.args.state c.args.symbol c.next.result c.next.ensures)
