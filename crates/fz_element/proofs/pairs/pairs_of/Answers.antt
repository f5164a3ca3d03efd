use Rattle.std.proofs.Common.{arith}
use Rattle.std.proofs.lemmas.Int.{ints}
use Rattle.fz_sets.specs.Sets.{IsInSet}
use Rattle.fz_bits.specs.Windows.{IsBit}
use Rattle.fz_strength.specs.Domains.{term_set}
use Rattle.fz_element.proofs.Pairing.{near_are}
use Rattle.fz_element.proofs.pairs.pairs_of.Goals as goal

pub related-pairs-requires-clause-room : goal.related-pairs-requires-clause-room
related-pairs-requires-clause-room c = let high = c.in-Some.ensures.ceiling in omega (arith, ints, high)

pub returns-clause-pairs : goal.returns-clause-pairs
returns-clause-pairs c =
    let ds = c.args.store.now.doms in
    let left = c.in-Some.indices in
    let right = c.in-Some-window_of.values in
    let pairs = c.related-pairs.result in
    rw (c.related-pairs.ensures.first_base, c.related-pairs.ensures.second_base)
    (near_are c.args.numbers.now (λ k. IsBit left.base left.bits k) (λ n. IsBit right.base right.bits n) (λ k. IsInSet (term_set ds c.args.index) k) (λ n. IsInSet (term_set ds c.args.value) n)
    (λ k. IsBit left.base pairs.firsts.bits k) (λ n. IsBit right.base pairs.seconds.bits n) c.in-Some.ensures.numbers c.in-Some-window_of.ensures.numbers c.related-pairs.ensures.matching)

pub returns-clause-indices : goal.returns-clause-indices
returns-clause-indices c = rw c.related-pairs.ensures.first_base (c.in-Some.ensures.floor, c.in-Some.ensures.ceiling)

pub returns-clause-values : goal.returns-clause-values
returns-clause-values c = rw c.related-pairs.ensures.second_base (c.in-Some-window_of.ensures.floor, c.in-Some-window_of.ensures.ceiling)
