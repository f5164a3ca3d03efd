use Rattle.std.proofs.Common.{take}
use Rattle.fz_strength.specs.Events.{AllFixed}
use Rattle.fz_linear.proofs.apart.first_unfixed.Given as goal

-- the terms so far are fixed
abbrev pub invariant-loop-i : goal.invariant-loop-i
invariant-loop-i l = AllFixed l.store.doms (take l.i l.terms)
