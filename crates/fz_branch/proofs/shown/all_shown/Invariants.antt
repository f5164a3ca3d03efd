use Rattle.std.proofs.Common.{◌≡◌}
use Rattle.std.specs.List.{range_with_len, filter}
use Rattle.fz_tree.specs.Rows.{is_shown}
use Rattle.fz_branch.proofs.shown.all_shown.Given as goal

-- those below the next
abbrev pub invariant-loop-variable : goal.invariant-loop-variable
invariant-loop-variable l = l.variables.items ≡ filter (is_shown l.model) (range_with_len 0 l.variable)
