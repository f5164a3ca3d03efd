use Rattle.std.proofs.Common.{sym}
use Rattle.fz_agenda.proofs.StateBits.{states_length}
use Rattle.fz_agenda.proofs.states.States.len.Goals as goal

pub returns : goal.returns
returns c = rw (← c.self.view_is) (sym (states_length c.self.inside.alive c.self.inside.queued c.self.inside.count))
