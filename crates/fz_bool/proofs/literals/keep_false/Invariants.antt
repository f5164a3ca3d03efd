use Rattle.fz_bool.proofs.Falsing.{FalseSoFar}
use Rattle.fz_bool.proofs.literals.keep_false.Given as goal

-- the literals so far are false
abbrev pub invariant-loop-literal : goal.invariant-loop-literal
invariant-loop-literal l = FalseSoFar l.initial.store l.store l.literals l.literal-index
