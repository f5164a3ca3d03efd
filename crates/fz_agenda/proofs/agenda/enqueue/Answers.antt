use Rattle.std.proofs.Common.{◌≡◌, ◌∙◌, [], ◌∷◌, ◌++◌, ap, arith, rules, length, ◌<◌}
use Rattle.std.specs.Prelude.{slice_index, slice_set}
use Rattle.fz_sets.proofs.Lists.{same_at}
use Rattle.fz_agenda.proofs.Standing.{agenda_queued}
use Rattle.fz_agenda.proofs.agenda.enqueue.Goals as goal

pub returns-clause-agenda : goal.returns-clause-agenda
returns-clause-agenda c =
    let queues = c.args.queues.now.items in
    let class = c.args.class in
    let within : c.args.place < length c.args.states.now = search rules in
    let idle : (c.args.place < length c.args.states.now) × (slice_index c.args.states.now c.args.place ≡ 0) = (within, c.requires.idle within) in
    let m = c.min.ensures in
    agenda_queued c.args.states.now c.queue.new.self queues _ c.args.lowest.now c.min.result class c.args.place c.requires.agenda c.requires.class idle
    (omega (arith, m)) (omega (arith, m))
    (ap (slice_set queues class) (c.in_ok-push.ensures.ok ∙ ap (λ q. q ++ c.args.place ∷ []) (c.index_mut.ensures.value ∙ same_at queues class c.index_mut.result.now [] (omega (arith, c.requires.class, c.requires.agenda.lineup.classes)))))
    c.queue.ensures
