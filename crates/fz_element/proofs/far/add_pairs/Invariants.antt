use Rattle.fz_sets.specs.Sets.{IsInSet}
use Rattle.fz_strength.specs.Domains.{dom_at, term_set}
use Rattle.fz_element.proofs.Pairing.{AreReached}
use Rattle.fz_element.proofs.far.add_pairs.Given as goal

-- the pairs of the first ranges
abbrev pub invariant-loop-i : goal.invariant-loop-i
invariant-loop-i l =
    AreReached l.numbers (dom_at l.store.doms l.variable) (λ n. IsInSet (term_set l.store.doms l.value) n) l.found.places.items l.found.numbers.items l.i l.first l.end l.reached
