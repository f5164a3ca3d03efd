use Rattle.std.specs.Prelude.{◌≤ℤ◌}
use Rattle.std.specs.Int.{int_max}
use Rattle.fz_sets.specs.Sets.{IsInSet}
use Rattle.fz_strength.specs.Domains.{term_set}
use Rattle.fz_element.specs.Selecting.{ArePairsBelow}
use Rattle.fz_element.proofs.far.add_range.Given as goal

-- the pairs so far
abbrev pub invariant-loop-place : goal.invariant-loop-place
invariant-loop-place l =
    ArePairsBelow l.numbers (λ k. IsInSet (term_set l.store.doms l.fn.index) k) (λ n. IsInSet (term_set l.store.doms l.value) n) l.found.places.items l.found.numbers.items l.place
    × (l.fn.from ≤ℤ l.place) × (l.place ≤ℤ int_max l.fn.from l.fn.until)
