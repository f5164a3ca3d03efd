use Rattle.std.proofs.Common.{◌≡◌, ◌-◌, ◌^◌, take}
use Rattle.std.specs.Prelude.{min}
use Rattle.fz_resolve.proofs.annotations.element_count.Given as goal
use Rattle.fz_spec.specs.Instance.{element_count}

-- the elements of the ranges so far
abbrev pub invariant-loop-range : goal.invariant-loop-range
invariant-loop-range l = l.count ≡ min (element_count (take l.range-index l.shape)) (2 ^ 64 - 1)
