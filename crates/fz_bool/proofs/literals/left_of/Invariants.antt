use Rattle.fz_bool.proofs.Looks.{LastSoFar}
use Rattle.fz_bool.proofs.literals.left_of.Given as goal

-- the only open one among the literals so far
abbrev pub invariant-loop-literal : goal.invariant-loop-literal
invariant-loop-literal l = LastSoFar l.last l.store.doms l.literals l.literal-index
