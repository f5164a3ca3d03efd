use Rattle.std.proofs.Common.{◌∙◌, length}
use Rattle.fz_strength.specs.declared.event.Event.TheVariants.{Any}
use Rattle.fz_engine.proofs.Listing.{extends_twice, has_variable, listed_next}
use Rattle.fz_engine.proofs.network.list.Goals as goal

pub list-requires : goal.list-requires
list-requires c =
    has_variable c.loop-wait.wakes (length c.args.wakes.now.any) c.args.waits.now c.loop-wait.wait-index (record { variable = 0; event = Any }) c.loop-wait.invariant.size c.requires.inside c.loop-wait-test.true

pub returns-in_err-list-clause-extends : goal.returns-in_err-list-clause-extends
returns-in_err-list-clause-extends c = extends_twice c.args.wakes.now c.loop-wait.wakes c.list.new.self c.loop-wait.invariant.extends c.list.ensures.extends

pub loop-wait-preserved : goal.loop-wait-preserved
loop-wait-preserved c = record {
  size = c.list.ensures.size (length c.args.wakes.now.any) c.loop-wait.invariant.size;
  extends = extends_twice c.args.wakes.now c.loop-wait.wakes c.list.new.self c.loop-wait.invariant.extends c.list.ensures.extends;
  listed = listed_next c.loop-wait.wakes c.list.new.self c.args.place c.args.waits.now c.loop-wait.wait-index (record { variable = 0; event = Any }) c.loop-wait-test.true c.list.ensures.extends
      c.loop-wait.invariant.listed c.in_ok-list.ensures.listed;
  costs = c.list.ensures.costs ∙ c.loop-wait.invariant.costs;
}
