use Rattle.fz_strength.specs.Operations.{equation}
use Rattle.fz_arith.proofs.Steps.{IsNarrowing}
use Rattle.fz_arith.proofs.narrow.keep_bounds.Given as goal

-- the terms so far were kept between their bounds
abbrev pub invariant-loop-place : goal.invariant-loop-place
invariant-loop-place l = IsNarrowing (equation l.operation l.operands l.value) l.fn.store l.store l.place l.changed
