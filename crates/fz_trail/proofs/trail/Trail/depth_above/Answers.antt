use Rattle.fz_trail.proofs.Places.{none_code, deepest_code}
use Rattle.fz_trail.proofs.trail.Trail.depth_above.Goals as goal

pub returns-in-Some : goal.returns-in-Some
returns-in-Some g c =
    deepest_code g.S.SearchSpace.spaced c.requires.0 c.requires.1 c.requires.2 c.args.node c.in-Some.i c.args.self.now.copies.items c.index.result.now c.in-Some.ensures c.index.ensures c.requires.3.copies

pub returns-in-None : goal.returns-in-None
returns-in-None g c = none_code c.args.node c.args.self.now.copies.items c.in-None.ensures
