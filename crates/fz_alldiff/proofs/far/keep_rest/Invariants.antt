use Rattle.fz_alldiff.proofs.Resting.{IsClearing, open_places}
use Rattle.fz_alldiff.proofs.far.keep_rest.Given as goal

-- the places that are done are cleared
abbrev pub invariant-places : goal.invariant-places
invariant-places l = IsClearing l.terms l.initial.store l.store l.done.items

abbrev pub decreases-places : goal.decreases-places
decreases-places l = open_places l.done.items
