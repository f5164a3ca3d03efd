use Rattle.std.proofs.Common.{arith}
use Rattle.std.proofs.lemmas.Int.{ints}
use Rattle.fz_bits.specs.Windows.{IsBit}
use Rattle.fz_element.proofs.Matching.{near_are}
use Rattle.fz_element.proofs.near_matches.near_matches.Goals as goal

pub related-found-requires-clause-room : goal.related-found-requires-clause-room
related-found-requires-clause-room c = let high = c.in_ok-indices.ensures.ceiling in omega (arith, ints, high)

pub returns-clause-matches : goal.returns-clause-matches
returns-clause-matches c =
    let left = c.in_ok-indices.indices in
    let right = c.in_ok-values.values in
    let found = c.related-found.result in
    rw (c.related-found.ensures.first_base, c.related-found.ensures.second_base)
    (near_are c.args.terms.now c.args.index c.args.value c.args.store.now.doms (λ i. IsBit left.base left.bits i) (λ n. IsBit right.base right.bits n)
    (λ i. IsBit left.base found.firsts.bits i) (λ n. IsBit right.base found.seconds.bits n) c.in_ok-indices.ensures.numbers c.in_ok-values.ensures.numbers c.related-found.ensures.matching)

pub returns-clause-indices : goal.returns-clause-indices
returns-clause-indices c = rw c.related-found.ensures.first_base (c.in_ok-indices.ensures.floor, c.in_ok-indices.ensures.ceiling)

pub returns-clause-numbers : goal.returns-clause-numbers
returns-clause-numbers c = rw c.related-found.ensures.second_base (c.in_ok-values.ensures.floor, c.in_ok-values.ensures.ceiling)
