use Rattle.std.proofs.Common.{◌≡◌, List, map, subst, rules, IsNone}
use Rattle.fz_hall.specs.declared.interval.Interval.{Interval}
use Rattle.fz_hall.specs.Lefts.{left_of, turn}
use Rattle.fz_hall.specs.Seats.{AreClearBelow}
use Rattle.fz_hall.proofs.Turning.{spread_of}
use Rattle.fz_hall.proofs.narrow.keep_far.Goals as goal

pub returns-clause-spread : goal.returns-clause-spread
returns-clause-spread c =
    let xs = c.args.terms.now in
    let ds = c.args.store.now.doms in
    let lefts = c.in_ok-lefts.lefts.items in
    let is : lefts ≡ map (left_of ds) xs = c.in_ok-lefts.ensures in
    let is_none : IsNone c.in_ok-found.field-0 = search rules in
    let below : AreClearBelow lefts = rw c.deref.ensures.value at (c.in_ok-found.ensures.below is_none) in
    let above : AreClearBelow (map turn lefts) = rw c.deref.ensures.value at (c.in_ok-found.ensures.above is_none) in
    spread_of xs ds (subst AreClearBelow is below) (subst (λ (l : List Interval). AreClearBelow (map turn l)) is above)
