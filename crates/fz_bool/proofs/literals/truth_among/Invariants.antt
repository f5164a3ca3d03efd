use Rattle.fz_bool.proofs.Looks.{StateSoFar}
use Rattle.fz_bool.proofs.literals.truth_among.Given as goal

-- what was seen of the literals so far
abbrev pub invariant-loop-literal : goal.invariant-loop-literal
invariant-loop-literal l = StateSoFar l.state l.store.doms l.literals l.literal-index
