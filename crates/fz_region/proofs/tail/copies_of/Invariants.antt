use Rattle.std.proofs.Common.{◌≡◌, take}
use Rattle.fz_region.proofs.tail.copies_of.Given as goal

-- those so far are copied
abbrev pub invariant-loop-edge : goal.invariant-loop-edge
invariant-loop-edge l = l.copies.items ≡ take l.edge-index l.edges
