use Rattle.std.proofs.Common.{refl}
use Rattle.fz_trail.proofs.Trails.{popped_at}
use Rattle.fz_trail.proofs.Places.{popped_used, trail_used}
use Rattle.fz_trail.proofs.trail.Trail.used_copy.Goals as goal

pub returns-clause-copies : goal.returns-clause-copies
returns-clause-copies g c =
    popped_used c.args.edges.now c.args.self.now.copies.items c.pop.new.self.items c.pop.result c.pop.ensures.items (c.has_used_copy.ensures.0 c.if-not-has_used_copy.false)

pub returns-clause-kept : goal.returns-clause-kept
returns-clause-kept g c = λ m known t. trail_used g.S.SearchSpace.spaced m known c.args.edges.now c.args.self.now _ refl (refl, refl) (refl, refl) refl (returns-clause-copies g c) t

pub returns-clause-space : goal.returns-clause-space
returns-clause-space g c = popped_at g.S.SearchSpace.spaced c.args.edges.now c.args.self.now c.pop.new.self.items c.pop.result c.pop.ensures.items
