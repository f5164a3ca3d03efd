use Rattle.std.proofs.Common.{length}
use Rattle.fz_strength.proofs.Cumulatives.{all_of_tasks}
use Rattle.fz_strength.specs.Domains.{IsTermOf}
use Rattle.fz_disjunctive.proofs.narrow.is_overdrawn.Goals as goal

pub open_tasks-requires-clause-durations : goal.open_tasks-requires-clause-durations
open_tasks-requires-clause-durations c = (all_of_tasks (IsTermOf (length c.args.store.now.doms)) c.args.starts.now c.args.durations.now c.args.usages.now c.args.bound c.requires).durations

pub open_tasks-requires-clause-usages : goal.open_tasks-requires-clause-usages
open_tasks-requires-clause-usages c = (all_of_tasks (IsTermOf (length c.args.store.now.doms)) c.args.starts.now c.args.durations.now c.args.usages.now c.args.bound c.requires).usages

pub greatest_of-high-requires : goal.greatest_of-high-requires
greatest_of-high-requires c = (all_of_tasks (IsTermOf (length c.args.store.now.doms)) c.args.starts.now c.args.durations.now c.args.usages.now c.args.bound c.requires).bound
