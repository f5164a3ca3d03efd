use Rattle.fz_agenda.proofs.StateBits.{states_new}
use Rattle.fz_agenda.proofs.states.States.new.Goals as goal

pub returns : goal.returns
returns c = states_new c.in_ok-alive.alive c.in_ok-queued.queued c.args.count c.in_ok-alive.ensures.members c.in_ok-queued.ensures.none
