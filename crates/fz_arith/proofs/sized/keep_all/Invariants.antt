use Rattle.std.specs.List.{AllByRecursion}
use Rattle.fz_prop.proofs.Keeping.{IsKept}
use Rattle.fz_arith.specs.Narrowing.{LiesBetween}
use Rattle.fz_arith.proofs.sized.keep_all.Given as goal

-- no assignment is lost that lies between, and whether the store changed
abbrev pub invariant-loop-index : goal.invariant-loop-index
invariant-loop-index l = IsKept (λ a. AllByRecursion (LiesBetween a) l.bounds) l.initial.store l.store l.has_changed
