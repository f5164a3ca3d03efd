use Rattle.fz_element.proofs.Matching.{AreMatchesBelow}
use Rattle.fz_element.proofs.matches.matches_of.Given as goal

-- the matches so far
abbrev pub invariant-loop-place : goal.invariant-loop-place
invariant-loop-place l =
    AreMatchesBelow l.terms l.index l.value l.store.doms l.places.items l.found.items l.place
