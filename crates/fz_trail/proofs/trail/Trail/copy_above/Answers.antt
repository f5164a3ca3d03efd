use Rattle.fz_trail.proofs.Places.{none_code, deepest_code, copied_code}
use Rattle.fz_trail.proofs.trail.Trail.copy_above.Goals as goal

pub returns-in_default-clause-depth : goal.returns-in_default-clause-depth
returns-in_default-clause-depth g c = none_code c.args.node c.args.self.now.copies.items c.in_default.ensures

pub returns-clause-depth : goal.returns-clause-depth
returns-clause-depth g c =
    deepest_code g.S.SearchSpace.spaced c.requires.0 c.requires.1 c.requires.2 c.args.node c.in-Some.i c.args.self.now.copies.items c.index-kept.result.now c.in-Some.ensures c.index-kept.ensures c.requires.3.copies

pub returns-clause-space : goal.returns-clause-space
returns-clause-space g c = λ m known es t.
    copied_code g.S.SearchSpace.spaced m known es c.args.node c.in-Some.i c.args.self.now c.index-kept.result.now c.in_ok-space.space c.in-Some.ensures c.index-kept.ensures c.in_ok-space.ensures t
