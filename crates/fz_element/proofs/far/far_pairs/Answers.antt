use Rattle.fz_sets.specs.Sets.{IsInSet}
use Rattle.fz_strength.specs.Domains.{term_set}
use Rattle.fz_element.proofs.Pairing.{pairs_all}
use Rattle.fz_element.proofs.far.far_pairs.Goals as goal

pub returns-clause-pairs : goal.returns-clause-pairs
returns-clause-pairs c =
    pairs_all c.args.numbers.now (λ k. IsInSet (term_set c.args.store.now.doms c.args.index) k) (λ n. IsInSet (term_set c.args.store.now.doms c.args.value) n) _ _ c.in_ok-indices.indices c.in_ok-values.values
    c.in_ok-add_pairs.ensures
    (rw c.deref.ensures.value at c.in_ok-indices.ensures.one_set) (rw c.deref-2.ensures.value at c.in_ok-values.ensures.one_set)
