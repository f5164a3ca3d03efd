use Rattle.std.proofs.Common.{◌≡◌, ◌++◌}
use Rattle.fz_element.proofs.matches.add_ranges.Given as goal

-- the ranges so far are added
abbrev pub invariant-loop-range : goal.invariant-loop-range
invariant-loop-range l = l.list.items ++ l.range-iterator ≡ l.initial.list.items ++ l.dom
