use Rattle.std.proofs.Common.{arith}
use Rattle.fz_search.proofs.Workers.{one_more_idle}
use Rattle.fz_search.proofs.team.paths_of.Goals as goal

pub workers-preserved : goal.workers-preserved
workers-preserved g c = (
  omega (arith, c.in_ok-push.ensures.len, c.workers.invariant.0),
  one_more_idle g.B.Subject.model g.B.Subject.mode c.args.options.now.commit_distance c.args.options.now.adaptive_distance c.workers.paths.items c.push.new.self.items c.args.path.now c.in_ok-beside.beside c.new.result
      c.in_ok-push.ensures.items c.new.ensures c.in_ok-beside.ensures.path c.requires.idle c.workers.invariant.1,
)

pub returns-clause-workers : goal.returns-clause-workers
returns-clause-workers g c = record {
  count = omega (arith, c.workers.invariant.0, c.workers-count.ensures.workers, c.workers-test.false, c.workers.auto._worker-end);
  idle = c.workers.invariant.1;
}
