use Rattle.std.proofs.Common.{◌≡◌, ◌≤◌, drop, length}
use Rattle.std.specs.Prelude.{◌↔◌}
use Rattle.fz_column.proofs.spans.Spans.are.Given as goal

-- what is left of both is the same exactly where both are
abbrev pub invariant-loop-range : goal.invariant-loop-range
invariant-loop-range l =
    ((drop l.place l.self-inside.ranges.items ≡ l.range-iterator) ↔ (l.self-inside.ranges.items ≡ l.dom)) × (l.place ≤ length l.self-inside.ranges.items)
