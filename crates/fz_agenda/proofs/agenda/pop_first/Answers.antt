use Rattle.std.proofs.Common.{[], ◌∙◌, ◌<◌, ◌≤◌, length, rules}
use Rattle.fz_sets.proofs.Lists.{same_at}
use Rattle.fz_agenda.proofs.Standing.{without_is, without_none}
use Rattle.fz_agenda.proofs.agenda.pop_first.Goals as goal

pub returns-then-class-len-clause-queues : goal.returns-then-class-len-clause-queues
returns-then-class-len-clause-queues c =
    let queues = c.args.queues.now.items in
    let class = c.lowest_from-class.result in
    let inside : class < length queues = search rules in
    let within : class < length c.deref.result.now = rw c.deref.ensures.value inside in
    rw (← c.deref.ensures.value) (without_is class c.pop.new.self c.deref.result.now within c.lowest_from-class.ensures.below (c.lowest_from-class.ensures.here within)
    (λ i rest is. c.pop.ensures i rest (c.index_mut.ensures.value ∙ same_at queues class c.index_mut.result.now [] inside ∙ rw (← c.deref.ensures.value) is)))

pub returns-else-class-len-clause-queues : goal.returns-else-class-len-clause-queues
returns-else-class-len-clause-queues c =
    let whole : length c.args.queues.now.items ≤ c.lowest_from-class.result = search rules in
    rw (← c.deref.ensures.value) (without_none c.deref.result.now c.lowest_from-class.result (rw c.deref.ensures.value whole) c.lowest_from-class.ensures.below)
