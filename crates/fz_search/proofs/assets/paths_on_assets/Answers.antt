use Rattle.std.proofs.Common.{arith}
use Rattle.fz_search.proofs.OnAssets.{one_more}
use Rattle.fz_search.proofs.assets.paths_on_assets.Goals as goal

pub workers-preserved : goal.workers-preserved
workers-preserved g c = (
  omega (arith, c.in_ok-push.ensures.len, c.workers.invariant.0),
  one_more g.B.Subject.model g.B.Subject.mode c.args.options.now c.workers.paths.items c.push.new.self.items c.deref.result.now c.in_ok-next.next c.new.result
      c.in_ok-push.ensures.items c.new.ensures c.deref.ensures.value c.in_ok-next.ensures c.workers.invariant.1,
)
