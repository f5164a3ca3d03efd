use Rattle.std.proofs.Common.{[], ◌≤◌, ◌∙◌, length, rules}
use Rattle.fz_sets.proofs.Lists.{same_at}
use Rattle.fz_agenda.proofs.Standing.{found_first, found_queued, line_none, at_rest}
use Rattle.fz_agenda.specs.Queues.{lineup}
use Rattle.fz_agenda.proofs.agenda.first_of.Goals as goal

pub returns-in-Some-clause-first : goal.returns-in-Some-clause-first
returns-in-Some-clause-first c =
    let found = c.in-Some.ensures.lookup in
    found_first c.first.result c.args.states.now c.args.queues.now c.lowest_from.result c.in-Some.queue.now c.requires.agenda.lineup found.3.0 c.lowest_from.ensures.below (c.lowest_from.ensures.here found.3.0)
    (found.1 ∙ same_at c.args.queues.now c.lowest_from.result c.in-Some.queue.now [] found.3.0) c.first.ensures

pub returns-in-Some-clause-none : goal.returns-in-Some-clause-none
returns-in-Some-clause-none c = found_queued c.first.result c.args.states.now c.args.queues.now c.requires.agenda.lineup (returns-in-Some-clause-first c)

pub returns-in-None-clause-first : goal.returns-in-None-clause-first
returns-in-None-clause-first c = let past : length c.args.queues.now ≤ c.lowest_from.result = search rules in line_none c.args.queues.now c.lowest_from.result past c.lowest_from.ensures.below

pub returns-in-None-clause-none : goal.returns-in-None-clause-none
returns-in-None-clause-none c = at_rest (lineup c.args.states.now c.args.queues.now) c.requires.agenda.lineup (returns-in-None-clause-first c)
