use Rattle.std.specs.Prelude.{pos, ◌<ℤ◌, ◌-ℤ◌, nat_abs}
use Rattle.fz_sets.specs.Sets.{IsInSet}
use Rattle.fz_strength.specs.Domains.{term_set}
use Rattle.fz_element.proofs.Matching.{AreFoundOf}
use Rattle.fz_element.proofs.words.found_in.Given as goal

-- the place is left, and what is found of the indices before it
abbrev pub invariant-places : goal.invariant-places
invariant-places l =
    IsInSet (term_set l.store.doms l.index) l.place × AreFoundOf (λ i. i <ℤ l.place) l.terms l.index l.fn.value l.store.doms l.base l.found

abbrev pub decreases-places : goal.decreases-places
decreases-places l = nat_abs (pos 2147483647 -ℤ l.place)
