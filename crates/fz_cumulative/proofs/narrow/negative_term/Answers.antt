use Rattle.std.proofs.Common.{length}
use Rattle.fz_strength.specs.Domains.{IsTermOf}
use Rattle.fz_strength.proofs.Cumulatives.{all_of_tasks}
use Rattle.fz_cumulative.proofs.Stepping.{place_of, bound_raised, duration_raised, usage_raised}
use Rattle.fz_cumulative.proofs.narrow.negative_term.Goals as goal

pub term_at-requires : goal.term_at-requires
term_at-requires c = let found = rw c.in-Duration.is at c.requires.found in (place_of c.args.store.now.doms c.args.starts.now c.args.durations.now c.args.usages.now c.in-Duration.place found.task found.at).1

pub term_at-requires-in-Usage : goal.term_at-requires-in-Usage
term_at-requires-in-Usage c = let found = rw c.in-Usage.is at c.requires.found in (place_of c.args.store.now.doms c.args.starts.now c.args.durations.now c.args.usages.now c.in-Usage.place found.task found.at).2

pub returns-in-Bound : goal.returns-in-Bound
returns-in-Bound c = bound_raised c.args.store.now.doms c.args.starts.now c.args.durations.now c.args.usages.now c.args.bound (record { terms = all_of_tasks (IsTermOf (length c.args.store.now.doms)) c.args.starts.now c.args.durations.now c.args.usages.now c.args.bound c.requires.inside; domains = c.doms.ensures.store.domains }) (rw c.in-Bound.is at c.requires.found)

pub returns-in-Duration : goal.returns-in-Duration
returns-in-Duration c =
    duration_raised c.args.store.now.doms c.args.starts.now c.args.durations.now c.args.usages.now c.args.bound c.in-Duration.place c.term_at.result c.term_at.ensures (record { terms = all_of_tasks (IsTermOf (length c.args.store.now.doms)) c.args.starts.now c.args.durations.now c.args.usages.now c.args.bound c.requires.inside; domains = c.doms.ensures.store.domains }) (rw c.in-Duration.is at c.requires.found)

pub returns-in-Usage : goal.returns-in-Usage
returns-in-Usage c =
    usage_raised c.args.store.now.doms c.args.starts.now c.args.durations.now c.args.usages.now c.args.bound c.in-Usage.place c.term_at-in-Usage.result c.term_at-in-Usage.ensures (record { terms = all_of_tasks (IsTermOf (length c.args.store.now.doms)) c.args.starts.now c.args.durations.now c.args.usages.now c.args.bound c.requires.inside; domains = c.doms.ensures.store.domains }) (rw c.in-Usage.is at c.requires.found)
