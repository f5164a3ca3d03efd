use Rattle.fz_cert.proofs.Heading.{IsSoFar}
use Rattle.fz_cert.proofs.guess.values.Given as goal

abbrev pub invariant-loop-i : goal.invariant-loop-i
invariant-loop-i l = IsSoFar l.count l.text l.left l.values.items l._i
