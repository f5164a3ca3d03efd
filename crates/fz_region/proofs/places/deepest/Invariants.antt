use Rattle.std.proofs.Common.{◌≡◌, false, drop}
use Rattle.std.specs.List.{list_any}
use Rattle.fz_tree.specs.Frontier.{edge_has_rest}
use Rattle.fz_region.proofs.places.deepest.Given as goal

-- none from here on has others
abbrev pub invariant-loop-i : goal.invariant-loop-i
invariant-loop-i l = list_any edge_has_rest (drop l.i l.edges) ≡ false
