use Rattle.std.proofs.Common.{◌≡◌, false, take}
use Rattle.std.specs.List.{list_any}
use Rattle.fz_tree.specs.Frontier.{edge_has_rest}
use Rattle.fz_region.proofs.places.topmost.Given as goal

-- none so far has others
abbrev pub invariant-loop-i : goal.invariant-loop-i
invariant-loop-i l = list_any edge_has_rest (take l.i l.edges) ≡ false
