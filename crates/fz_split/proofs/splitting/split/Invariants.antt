use Rattle.fz_split.specs.Weights.{weight_in}
use Rattle.fz_split.proofs.Fronts.{IsSplitting}
use Rattle.fz_split.proofs.splitting.split.Given as goal

-- the parts at the front are parts of the model
abbrev pub invariant-nodes : goal.invariant-nodes
invariant-nodes g l = IsSplitting (g.S.SearchSpace.spaced l.root).model l.most l.nodes

abbrev pub decreases-nodes : goal.decreases-nodes
decreases-nodes g l = weight_in (g.S.SearchSpace.spaced l.root).model l.nodes.queue.items
