use Rattle.fz_trail.proofs.Trails.{nearest_code}
use Rattle.fz_trail.proofs.trail.Trail.copy_of_nearest.Goals as goal

pub returns-in-Some-clause-space : goal.returns-in-Some-clause-space
returns-in-Some-clause-space g c =
    nearest_code g.S.SearchSpace.spaced c.args.self.now c.deref.result.now c.in-Some.kept.now c.copy_of.result c.in-Some.ensures.value c.deref.ensures.value c.copy_of.ensures.depth c.copy_of.ensures.space
