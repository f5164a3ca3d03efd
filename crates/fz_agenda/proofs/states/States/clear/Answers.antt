use Rattle.fz_agenda.proofs.StateBits.{states_length, states_new}
use Rattle.fz_agenda.proofs.states.States.clear.Goals as goal

pub returns : goal.returns
returns c =
    let now = c.self.inside in
    rw (← c.self.view_is, states_length now.alive now.queued now.count) (states_new c.fill.new.self c.clear.new.self now.count c.fill.ensures.members c.clear.ensures.none)
