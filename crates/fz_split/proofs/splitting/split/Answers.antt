use Rattle.fz_split.proofs.Fronts.{begun, gone_on}
use Rattle.fz_split.proofs.splitting.split.Goals as goal

pub nodes-init : goal.nodes-init
nodes-init g c = begun (g.S.SearchSpace.spaced c.args.root.now).model c.args.most c.in_ok-nodes.nodes c.requires.some c.in_ok-nodes.ensures.queue c.in_ok-nodes.ensures.single

pub can_grow-requires : goal.can_grow-requires
can_grow-requires g c = c.nodes.invariant.few

pub nodes-preserved : goal.nodes-preserved
nodes-preserved g c = gone_on (g.S.SearchSpace.spaced c.args.root.now).model c.args.most c.nodes.nodes c.expand.new.nodes c.nodes.invariant c.in_ok-expand.ensures.keeps c.in_ok-expand.ensures.few
