use Rattle.std.proofs.Common.{length, refl, rules}
use Rattle.std.proofs.Math.Facts.{to_z-of_z}
use mir.Val.{SFits}
use mir.Syntax.{w32}
use Rattle.fz_strength.specs.Domains.{IsTermOf}
use Rattle.fz_strength.proofs.Cumulatives.{all_of_tasks}
use Rattle.fz_cumulative.proofs.Energies.{never_overdrawn}
use Rattle.fz_cumulative.proofs.energy.lacks_energy.Goals as goal

pub open_tasks-requires-clause-starts : goal.open_tasks-requires-clause-starts
open_tasks-requires-clause-starts c = (all_of_tasks (IsTermOf (length c.args.store.now.doms)) c.args.starts.now c.args.durations.now c.args.usages.now c.args.bound c.requires).starts

pub open_tasks-requires-clause-durations : goal.open_tasks-requires-clause-durations
open_tasks-requires-clause-durations c = (all_of_tasks (IsTermOf (length c.args.store.now.doms)) c.args.starts.now c.args.durations.now c.args.usages.now c.args.bound c.requires).durations

pub open_tasks-requires-clause-usages : goal.open_tasks-requires-clause-usages
open_tasks-requires-clause-usages c = (all_of_tasks (IsTermOf (length c.args.store.now.doms)) c.args.starts.now c.args.durations.now c.args.usages.now c.args.bound c.requires).usages

pub least_of-low-requires : goal.least_of-low-requires
least_of-low-requires c = (all_of_tasks (IsTermOf (length c.args.store.now.doms)) c.args.starts.now c.args.durations.now c.args.usages.now c.args.bound c.requires).bound

pub greatest_of-high-requires : goal.greatest_of-high-requires
greatest_of-high-requires c = (all_of_tasks (IsTermOf (length c.args.store.now.doms)) c.args.starts.now c.args.durations.now c.args.usages.now c.args.bound c.requires).bound

pub returns : goal.returns
returns c = λ is_over a within shared.
    let fits : SFits w32 c.greatest_of-high.result = search rules in
    let over = rw (to_z-of_z fits, c.deref-2.ensures.value, c.in_ok-tasks.ensures) at (c.is_overdrawn.ensures is_over) in
    let sound = rw (c.deref.ensures.value, c.in_ok-tasks.ensures) at (c.in_default.ensures.sound refl) in
    never_overdrawn c.args.store.now.doms c.args.starts.now c.args.durations.now c.args.usages.now c.args.bound c.greatest_of-high.result a
    (record { terms = all_of_tasks (IsTermOf (length c.args.store.now.doms)) c.args.starts.now c.args.durations.now c.args.usages.now c.args.bound c.requires; domains = c.doms.ensures.store.domains })
    c.greatest_of-high.ensures.greatest sound over within shared
