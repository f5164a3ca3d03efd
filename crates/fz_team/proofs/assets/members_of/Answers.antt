use Rattle.std.proofs.Common.{arith, refl}
use Rattle.fz_team.proofs.Words.{one_joins}
use Rattle.fz_team.proofs.assets.members_of.Goals as goal

pub workers-preserved : goal.workers-preserved
workers-preserved g c =
    let inv = c.workers.invariant in
    let more = one_joins g.T.Subject.model c.args.bound.now c.args.count c.workers.worker c.workers.seat c.split-mine.new.seat c.split-mine.result _ c.workers.members.items c.push.new.self.items c.split-mine.ensures.stays c.split-mine.ensures.new refl refl refl refl refl
    c.workers-test.true c.requires.count c.in_ok-push.ensures.items inv.0 inv.1 inv.2 inv.4 in
    (more.0, more.1, more.2, omega (arith, c.in_ok-push.ensures.len, inv.3), more.3)
