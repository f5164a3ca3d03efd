use Rattle.fz_prop.proofs.Steps.{same_shrinks}
use Rattle.fz_space.proofs.Deciding.{decided_beyond}
use Rattle.fz_space.proofs.commit.decide.Goals as goal

pub returns-else-decision-doms-clause-shrinks : goal.returns-else-decision-doms-clause-shrinks
returns-else-decision-doms-clause-shrinks c = same_shrinks c.args.store.now

pub returns-else-decision-doms-clause-decided : goal.returns-else-decision-doms-clause-decided
returns-else-decision-doms-clause-decided c = decided_beyond c.args.decision c.args.store.now.doms c.args.store.now.doms (rw (← c.doms.ensures.doms) c.if-decision-doms.false)
