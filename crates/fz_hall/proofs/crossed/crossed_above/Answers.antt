use Rattle.std.proofs.Common.{map, rules, IsNone}
use Rattle.std.specs.List.Sorted.{IsPermutation}
use Rattle.fz_hall.specs.Lefts.{turn}
use Rattle.fz_hall.specs.Seats.{AreClearBelow, left}
use Rattle.fz_hall.proofs.Seating.{clear_permuted}
use Rattle.fz_hall.proofs.crossed.crossed_above.Goals as goal

pub returns : goal.returns
returns c = λ none.
    let ls = c.args.lefts.now in
    let ss = c.in_ok-seats.seats.items in
    let is_none : IsNone c.in_ok-found.field-0 = search rules in
    let clear : AreClearBelow (map left ss) = rw c.deref-2.ensures.value at (c.in_ok-found.ensures is_none) in
    let moved : IsPermutation (map turn ls) (map left ss) = rw (c.deref.ensures.value, c.in_ok-opposites.ensures) at c.in_ok-seats.ensures in
    clear_permuted (map turn ls) (map left ss) moved clear
