use Rattle.std.proofs.Common.{◌≡◌, ◌+◌, ◌-◌, false, take}
use Rattle.std.specs.List.{list_any}
use Rattle.fz_tree.specs.Choice.{meets}
use Rattle.fz_tree.specs.Frontier.{others}
use Rattle.fz_region.proofs.edge.Edge.other_is_met_by.Given as goal

-- none so far is met
abbrev pub invariant-loop-alternative : goal.invariant-loop-alternative
invariant-loop-alternative l = list_any (meets l.numbers) (take (l.alternative - (l.self.taken + 1)) (others l.self)) ≡ false
