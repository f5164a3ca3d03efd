use Rattle.fz_agenda.proofs.agenda.Agenda.copy_from.Goals as goal

pub invariant_of-self : goal.invariant_of-self
invariant_of-self c = c.clear.ensures.agenda c.self.inside.lowest
