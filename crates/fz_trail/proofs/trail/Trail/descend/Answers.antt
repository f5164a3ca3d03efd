use Rattle.std.proofs.Common.{arith}
use Rattle.fz_trail.proofs.Trails.{kept_deeper, above_last}
use Rattle.fz_trail.proofs.Places.{near_deeper}
use Rattle.fz_trail.proofs.trail.Trail.descend.Goals as goal

pub returns-clause-trail : goal.returns-clause-trail
returns-clause-trail g c = λ m known es e long at near t. record {
  distances = t.distances;
  root = t.root;
  copies = kept_deeper g.S.SearchSpace.spaced m known es e 0 c.args.self.now.copies.items t.copies;
  few = t.few;
  longest = omega (arith, long, c.max-self.ensures);
  near = near_deeper c.args.self.now.distance c.args.self.now.longest c.max-self.result c.args.self.now.sparse es e c.args.self.now.copies.items (omega (arith, c.max-self.ensures)) (omega (arith, t.longest, c.max-self.ensures)) near t.near;
  current = above_last m known es e (g.S.SearchSpace.spaced c.args.space) at;
}
