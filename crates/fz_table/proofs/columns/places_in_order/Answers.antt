use Rattle.fz_table.proofs.Building.{rising_from_sort, placed_still}
use Rattle.fz_table.proofs.columns.places_in_order.Goals as goal

pub returns-clause-order : goal.returns-clause-order
returns-clause-order c = rising_from_sort c.sort_unstable.new.self.items c.sort_unstable.ensures.sorted

pub returns-clause-places : goal.returns-clause-places
returns-clause-places c = λ n i.
    let still = placed_still c.in_ok-places.places.items c.sort_unstable.new.self.items c.sort_unstable.ensures.permutation n i in
    let are = c.in_ok-places.ensures n i in
    ((λ h. are.0 (still.0 h)), (λ h. still.1 (are.1 h)))
