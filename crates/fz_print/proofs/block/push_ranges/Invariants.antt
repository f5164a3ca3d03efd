use Rattle.std.proofs.Common.{◌≡◌, ◌++◌, take, codes}
use Rattle.std.specs.Prelude.{flat_map}
use Rattle.fz_spec.specs.Run.{range_text}
use Rattle.fz_print.proofs.block.push_ranges.Given as goal

-- the ranges so far
abbrev pub invariant-loop-range : goal.invariant-loop-range
invariant-loop-range l = l.text.items ≡ l.initial.text.items ++ flat_map (λ r. range_text r ++ codes ", ") (take l.range-index l.ranges)
