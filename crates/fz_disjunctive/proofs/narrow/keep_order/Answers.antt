use Rattle.std.proofs.Common.{rules, length, SFits}
use Rattle.std.proofs.Math.Facts.{to_z-of_z}
use mir.Syntax.{w32}
use Rattle.fz_strength.proofs.Cumulatives.{all_of_tasks}
use Rattle.fz_strength.specs.Domains.{IsTermOf}
use Rattle.fz_disjunctive.proofs.Shared.{IsShop, shop_of, shop_places, shop_correct, shop_outcome, shop_fails}
use Rattle.fz_disjunctive.proofs.narrow.keep_order.Goals as goal

pub open_tasks-requires-clause-durations : goal.open_tasks-requires-clause-durations
open_tasks-requires-clause-durations c = (all_of_tasks (IsTermOf (length c.args.store.now.doms)) c.args.starts.now c.args.durations.now c.args.usages.now c.args.bound c.requires).durations

pub open_tasks-requires-clause-usages : goal.open_tasks-requires-clause-usages
open_tasks-requires-clause-usages c = (all_of_tasks (IsTermOf (length c.args.store.now.doms)) c.args.starts.now c.args.durations.now c.args.usages.now c.args.bound c.requires).usages

pub greatest_of-high-requires : goal.greatest_of-high-requires
greatest_of-high-requires c = (all_of_tasks (IsTermOf (length c.args.store.now.doms)) c.args.starts.now c.args.durations.now c.args.usages.now c.args.bound c.requires).bound

pub keep_starts-requires-clause-terms : goal.keep_starts-requires-clause-terms
keep_starts-requires-clause-terms c = (all_of_tasks (IsTermOf (length c.args.store.now.doms)) c.args.starts.now c.args.durations.now c.args.usages.now c.args.bound c.requires).starts

pub keep_starts-requires-clause-places : goal.keep_starts-requires-clause-places
keep_starts-requires-clause-places c =
    let high_fits : SFits w32 c.greatest_of-high.result = search rules in
    let shop : IsShop c.args.direction c.args.store.now.doms c.args.starts.now c.args.durations.now c.args.usages.now c.args.bound c.in_ok-jobs.jobs.items =
    shop_of c.args.direction c.args.store.now.doms c.args.starts.now c.args.durations.now c.args.usages.now c.args.bound c.in_ok-tasks.tasks.items c.greatest_of-high.result c.in_ok-jobs.jobs.items
    c.requires c.doms.ensures.store.domains c.in_ok-tasks.ensures c.greatest_of-high.ensures.greatest (rw (c.deref.ensures.value, to_z-of_z high_fits) at c.in_ok-jobs.ensures) in
    rw c.deref-in-Some.ensures.value (shop_places c.args.direction c.args.store.now.doms c.args.starts.now c.args.durations.now c.args.usages.now c.args.bound c.in_ok-jobs.jobs.items shop)

pub returns-in-None-clause-outcome : goal.returns-in-None-clause-outcome
returns-in-None-clause-outcome c =
    let high_fits : SFits w32 c.greatest_of-high.result = search rules in
    let shop : IsShop c.args.direction c.args.store.now.doms c.args.starts.now c.args.durations.now c.args.usages.now c.args.bound c.in_ok-jobs.jobs.items =
    shop_of c.args.direction c.args.store.now.doms c.args.starts.now c.args.durations.now c.args.usages.now c.args.bound c.in_ok-tasks.tasks.items c.greatest_of-high.result c.in_ok-jobs.jobs.items
    c.requires c.doms.ensures.store.domains c.in_ok-tasks.ensures c.greatest_of-high.ensures.greatest (rw (c.deref.ensures.value, to_z-of_z high_fits) at c.in_ok-jobs.ensures) in
    shop_fails c.args.direction c.args.store.now c.args.store.now c.args.starts.now c.args.durations.now c.args.usages.now c.args.bound c.in_ok-jobs.jobs.items shop (rw (c.deref-2.ensures.value, c.in-None.is) at c.in_ok-soonest_ends.ensures)

pub returns-in_err-change-in-Some-clause-correct : goal.returns-in_err-change-in-Some-clause-correct
returns-in_err-change-in-Some-clause-correct c =
    let high_fits : SFits w32 c.greatest_of-high.result = search rules in
    let shop : IsShop c.args.direction c.args.store.now.doms c.args.starts.now c.args.durations.now c.args.usages.now c.args.bound c.in_ok-jobs.jobs.items =
    shop_of c.args.direction c.args.store.now.doms c.args.starts.now c.args.durations.now c.args.usages.now c.args.bound c.in_ok-tasks.tasks.items c.greatest_of-high.result c.in_ok-jobs.jobs.items
    c.requires c.doms.ensures.store.domains c.in_ok-tasks.ensures c.greatest_of-high.ensures.greatest (rw (c.deref.ensures.value, to_z-of_z high_fits) at c.in_ok-jobs.ensures) in
    shop_correct c.args.direction c.args.store.now.doms c.keep_starts.new.store.doms c.args.starts.now c.args.durations.now c.args.usages.now c.args.bound c.in_ok-jobs.jobs.items shop (rw c.deref-in-Some.ensures.value at c.keep_starts.ensures.correct)

pub returns-clause-correct : goal.returns-clause-correct
returns-clause-correct c =
    let high_fits : SFits w32 c.greatest_of-high.result = search rules in
    let shop : IsShop c.args.direction c.args.store.now.doms c.args.starts.now c.args.durations.now c.args.usages.now c.args.bound c.in_ok-jobs.jobs.items =
    shop_of c.args.direction c.args.store.now.doms c.args.starts.now c.args.durations.now c.args.usages.now c.args.bound c.in_ok-tasks.tasks.items c.greatest_of-high.result c.in_ok-jobs.jobs.items
    c.requires c.doms.ensures.store.domains c.in_ok-tasks.ensures c.greatest_of-high.ensures.greatest (rw (c.deref.ensures.value, to_z-of_z high_fits) at c.in_ok-jobs.ensures) in
    shop_correct c.args.direction c.args.store.now.doms c.keep_starts.new.store.doms c.args.starts.now c.args.durations.now c.args.usages.now c.args.bound c.in_ok-jobs.jobs.items shop (rw c.deref-in-Some.ensures.value at c.keep_starts.ensures.correct)

pub returns-clause-outcome : goal.returns-clause-outcome
returns-clause-outcome c =
    let high_fits : SFits w32 c.greatest_of-high.result = search rules in
    let shop : IsShop c.args.direction c.args.store.now.doms c.args.starts.now c.args.durations.now c.args.usages.now c.args.bound c.in_ok-jobs.jobs.items =
    shop_of c.args.direction c.args.store.now.doms c.args.starts.now c.args.durations.now c.args.usages.now c.args.bound c.in_ok-tasks.tasks.items c.greatest_of-high.result c.in_ok-jobs.jobs.items
    c.requires c.doms.ensures.store.domains c.in_ok-tasks.ensures c.greatest_of-high.ensures.greatest (rw (c.deref.ensures.value, to_z-of_z high_fits) at c.in_ok-jobs.ensures) in
    shop_outcome c.in_ok-change-in-Some.change c.args.direction c.args.store.now c.keep_starts.new.store c.args.starts.now c.args.durations.now c.args.usages.now c.args.bound c.in_ok-jobs.jobs.items shop (rw c.deref-in-Some.ensures.value at c.in_ok-change-in-Some.ensures.outcome)
