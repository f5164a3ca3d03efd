use Rattle.std.proofs.Common.{length}
use Rattle.fz_strength.specs.Domains.{IsTermOf}
use Rattle.fz_strength.proofs.Cumulatives.{all_of_tasks}
use Rattle.fz_cumulative.proofs.narrow.are_all_fixed.Goals as goal

pub are_fixed-requires-then-are_fixed : goal.are_fixed-requires-then-are_fixed
are_fixed-requires-then-are_fixed c = (all_of_tasks (IsTermOf (length c.args.store.now.doms)) c.args.starts.now c.args.durations.now c.args.usages.now c.args.bound c.requires).durations

pub are_fixed-requires-then-are_fixed-2 : goal.are_fixed-requires-then-are_fixed-2
are_fixed-requires-then-are_fixed-2 c = (all_of_tasks (IsTermOf (length c.args.store.now.doms)) c.args.starts.now c.args.durations.now c.args.usages.now c.args.bound c.requires).usages

pub are_fixed-requires-then-are_fixed-3 : goal.are_fixed-requires-then-are_fixed-3
are_fixed-requires-then-are_fixed-3 c = ((all_of_tasks (IsTermOf (length c.args.store.now.doms)) c.args.starts.now c.args.durations.now c.args.usages.now c.args.bound c.requires).bound, tt)
