use Rattle.std.proofs.Common.{ℕ, ℤ}
use Rattle.std.specs.Ordering.{is_lt, nat_cmp, int_cmp, ordering_then}
use Rattle.fz_plain.proofs.Twice.{in_order_from_sort, first_not_above}
use Rattle.fz_plain.proofs.gather.entries_of.Goals as goal

pub returns-clause-order : goal.returns-clause-order
returns-clause-order c =
    in_order_from_sort (λ (a b : ℕ × ℤ). is_lt (ordering_then (nat_cmp a.0 b.0) (int_cmp a.1 b.1))) c.sort_unstable.new.self.items first_not_above c.sort_unstable.ensures.sorted
