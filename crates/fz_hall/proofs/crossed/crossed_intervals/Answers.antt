use Rattle.std.proofs.Common.{map, rules, IsNone}
use Rattle.std.specs.List.Sorted.{IsPermutation}
use Rattle.std.proofs.lemmas.Result.{IfOk-weaker}
use Rattle.fz_hall.specs.Lefts.{turn}
use Rattle.fz_hall.specs.Seats.{AreClearBelow, left}
use Rattle.fz_hall.proofs.Seating.{clear_permuted}
use Rattle.fz_hall.proofs.Turning.{clear_turned}
use Rattle.fz_hall.proofs.crossed.crossed_intervals.Goals as goal

pub returns-then-branch-clause-below : goal.returns-then-branch-clause-below
returns-then-branch-clause-below c = λ none.
    let ls = c.args.lefts.now in
    let ss = c.in_ok-seats.seats.items in
    let is_none : IsNone c.in_ok-found.field-0 = search rules in
    let clear : AreClearBelow (map left ss) = rw c.deref.ensures.value at (c.in_ok-found.ensures is_none) in
    clear_permuted ls (map left ss) c.in_ok-seats.ensures clear

pub returns-then-branch-clause-above : goal.returns-then-branch-clause-above
returns-then-branch-clause-above c = λ none.
    let ls = c.args.lefts.now in
    let ss = c.in_ok-seats.seats.items in
    let ts = c.in_ok-opposites.opposites.items in
    let moved : IsPermutation (map turn (map left ss)) (map left ts) = rw c.deref-2.ensures.value at c.in_ok-opposites.ensures in
    let clear : AreClearBelow (map left ts) = rw c.deref-3.ensures.value at (c.in_ok-are_clear.ensures c.if-branch.true) in
    clear_turned ls ss ts c.in_ok-seats.ensures moved clear

pub returns-clause-below : goal.returns-clause-below
returns-clause-below c =
    let ls = c.args.lefts.now in
    let ss = c.in_ok-seats.seats.items in
    let is_none : IsNone c.in_ok-found.field-0 = search rules in
    let clear : AreClearBelow (map left ss) = rw c.deref.ensures.value at (c.in_ok-found.ensures is_none) in
    let is : AreClearBelow ls = clear_permuted ls (map left ss) c.in_ok-seats.ensures clear in
    IfOk-weaker c.crossed_above.result _ _ (λ o h none. is) c.crossed_above.ensures
