use Rattle.std.proofs.Common.{◌≡◌, List}
use Rattle.std.specs.Arc.{arc_value}
use Rattle.fz_spec.specs.Instance.{SearchPart}
use Rattle.fz_branch.specs.Plans.{plan_asset}
use Rattle.fz_machine.specs.Cores.{Core, starting_by}
use Rattle.fz_machine.proofs.Assets.{assets_more}
use Rattle.fz_machine.proofs.portfolio.machines_of.Goals as goal

pub loop-asset-preserved : goal.loop-asset-preserved
loop-asset-preserved g c =
    let m = arc_value c.args.model.now in
    let by : List SearchPart → Core = λ p. starting_by m c.args.mode p c.args.workers c.args.commit_distance c.args.adaptive_distance in
    let plan : c.in_ok-plan.plan ≡ plan_asset m c.loop-asset.asset = rw (← c.deref.ensures) c.in_ok-plan.ensures.plan in
    let made : c.in_ok-by_plan.field-0 ≡ by (plan_asset m c.loop-asset.asset) = rw (← plan) c.in_ok-by_plan.ensures in
    assets_more m c.args.mode c.loop-asset.asset c.args.workers c.args.commit_distance c.args.adaptive_distance c.in_ok-by_plan.field-0 c.loop-asset.machines.items c.push.new.self.items
    c.in_ok-push.ensures.items c.loop-asset.invariant made
