use Rattle.fz_space.proofs.Fronts.{settled_least}
use Rattle.fz_space.proofs.contents.ContentsSearchSpace.least.Goals as goal

pub least_of-requires-clause-known : goal.least_of-requires-clause-known
least_of-requires-clause-known c = rw (c.numbers.ensures, c.doms.ensures.doms) (settled_least c.self.inside.settled c.self.inside.store.doms c.self.invariant.1)
