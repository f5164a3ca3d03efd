use Rattle.std.proofs.Common.{◌≡◌, map, take}
use Rattle.fz_hall.specs.Lefts.{left_of}
use Rattle.fz_hall.proofs.lefts.lefts_of.Given as goal

-- those so far
abbrev pub invariant-loop-term : goal.invariant-loop-term
invariant-loop-term l = l.lefts.items ≡ map (left_of l.store.doms) (take l.term-index l.terms)
