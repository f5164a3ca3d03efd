use Rattle.std.proofs.Common.{◌<◌, length, arith}
use Rattle.fz_agenda.proofs.Places.{within_of}
use Rattle.fz_agenda.proofs.Spared.{gone_after, all_but}
use Rattle.fz_agenda.proofs.draining.drain_but.Goals as goal

pub revive-requires : goal.revive-requires
revive-requires c =
    let within : c.args.place < length c.args.agenda.now.states = within_of c.args.agenda.now.states c.args.place (λ zero. omega (arith, c.requires.queued, zero)) in
    gone_after c.args.place c.args.wakes.now c.args.store.now c.drain-drained.new.store c.args.agenda.now c.retire.new.self c.drain-drained.new.agenda within c.retire.ensures c.drain-drained.ensures.draining

pub returns-clause-draining : goal.returns-clause-draining
returns-clause-draining c =
    let within : c.args.place < length c.args.agenda.now.states = within_of c.args.agenda.now.states c.args.place (λ zero. omega (arith, c.requires.queued, zero)) in
    all_but c.args.place c.args.wakes.now c.args.store.now c.drain-drained.new.store c.args.agenda.now c.retire.new.self c.drain-drained.new.agenda c.revive.new.self
    (record { within = within; aside = c.retire.ensures; draining = c.drain-drained.ensures.draining; back = c.revive.ensures })
