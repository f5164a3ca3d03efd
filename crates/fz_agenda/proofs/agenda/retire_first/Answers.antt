use Rattle.std.proofs.Common.{arith}
use Rattle.fz_agenda.specs.Queues.{lineup}
use Rattle.fz_agenda.proofs.Places.{within_of}
use Rattle.fz_agenda.proofs.Standing.{first_queued, agenda_gone}
use Rattle.fz_agenda.proofs.agenda.retire_first.Goals as goal

pub returns-clause-agenda : goal.returns-clause-agenda
returns-clause-agenda c =
    let states = c.args.states.now in
    let queues = c.args.queues.now.items in
    let one = first_queued (lineup states queues) c.args.place c.requires.agenda.lineup c.requires.first in
    agenda_gone states c.retire.new.self queues c.pop_first.new.queues.items c.args.lowest.now c.pop_first.result c.args.place c.requires.agenda c.requires.first
    (within_of states c.args.place (λ zero. omega (arith, one, zero))) c.pop_first.ensures.queues c.pop_first.ensures.below c.retire.ensures
