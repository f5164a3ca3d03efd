use Rattle.std.proofs.Common.{◌≡◌, drop}
use Rattle.fz_tree.specs.Frontier.{is_below}
use Rattle.fz_region.proofs.frontier.is_inside.Given as goal

-- those so far decide nothing
abbrev pub invariant-loop-i : goal.invariant-loop-i
invariant-loop-i l = is_below l.edges l.current_open l.numbers ≡ is_below (drop l.i l.edges) l.current_open l.numbers
