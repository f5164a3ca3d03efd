use Rattle.fz_split.proofs.Dividing.{none_chosen}
use Rattle.fz_split.proofs.division.division.Goals as goal

pub unreachable-requires : goal.unreachable-requires
unreachable-requires g c =
    none_chosen (g.S.SearchSpace.spaced c.args.space.now).model c.args.plan.now (g.S.SearchSpace.spaced c.args.space.now).doms c.doms-doms.result.now c.in_ok-found.found c.doms-doms.ensures.doms c.requires.size c.requires.branch.1 c.requires.plan
    c.in-None.is c.in_ok-found.ensures
