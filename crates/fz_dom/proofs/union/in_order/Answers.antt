use Rattle.std.proofs.Common.{ℤ}
use Rattle.std.specs.Prelude.{All}
use Rattle.std.specs.Ordering.{is_lt, int_cmp, ordering_then}
use Rattle.std.proofs.lemmas.List.Sorted.{All-permutation}
use Rattle.fz_dom.specs.Union.{IsProper}
use Rattle.fz_dom.proofs.Merging.{filter_one_set, filter_proper, permutation_one_set, in_order_from_sort, first_not_above, AreOneSet-trans}
use Rattle.fz_dom.proofs.union.in_order.Goals as goal

pub returns-clause-proper : goal.returns-clause-proper
returns-clause-proper c =
    let p : All IsProper c.in_ok-kept.kept.items = rw c.in_ok-kept.ensures (filter_proper c.args.ranges.now c.requires) in
    All-permutation IsProper c.in_ok-kept.kept.items c.sort_unstable.new.self.items c.sort_unstable.ensures.permutation p

pub returns-clause-order : goal.returns-clause-order
returns-clause-order c =
    in_order_from_sort (λ (a b : ℤ × ℤ). is_lt (ordering_then (int_cmp a.0 b.0) (int_cmp a.1 b.1))) c.sort_unstable.new.self.items first_not_above c.sort_unstable.ensures.sorted

pub returns-clause-one_set : goal.returns-clause-one_set
returns-clause-one_set c =
    let f = permutation_one_set c.in_ok-kept.kept.items c.sort_unstable.new.self.items c.sort_unstable.ensures.permutation in
    let g = filter_one_set c.args.ranges.now in
    AreOneSet-trans c.sort_unstable.new.self.items c.in_ok-kept.kept.items c.args.ranges.now f (rw c.in_ok-kept.ensures g)
