use Rattle.std.proofs.Common.{take}
use Rattle.fz_strength.specs.Events.{AllFixed}
use Rattle.fz_prop.proofs.terms.are_fixed.Given as goal

-- those so far are fixed
abbrev pub invariant-loop-term : goal.invariant-loop-term
invariant-loop-term l = AllFixed l.store.doms (take l.term-index l.terms)
