use Rattle.std.proofs.Common.{◌≡◌, length}
use Rattle.fz_disjunctive.proofs.order.soonest_ends.Given as goal

-- one for each job so far
abbrev pub invariant-loop-index : goal.invariant-loop-index
invariant-loop-index l = length l.ends.items ≡ l.index
