use Rattle.std.proofs.Common.{◌≡◌, map, take}
use Rattle.fz_tree.specs.Frontier.{settled_edge}
use Rattle.fz_region.proofs.tail.settled_of.Given as goal

-- those so far are settled
abbrev pub invariant-loop-edge : goal.invariant-loop-edge
invariant-loop-edge l = l.settled.items ≡ map settled_edge (take l.edge-index l.edges)
