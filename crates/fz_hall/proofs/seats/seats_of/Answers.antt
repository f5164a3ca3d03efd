use Rattle.std.proofs.Common.{◌≡◌, map, subst, sym}
use Rattle.std.specs.List.Sorted.{IsPermutation}
use Rattle.std.proofs.lemmas.List.Sorted.{IsPermutation-map, IsPermutation-trans}
use Rattle.fz_hall.specs.Seats.{left}
use Rattle.fz_hall.proofs.seats.seats_of.Goals as goal

pub returns : goal.returns
returns c =
    let ls = c.args.lefts.now in
    let rising = c.sort_unstable_by.new.self.items in
    let seats = c.in_ok-seats.seats.items in
    let first : IsPermutation ls rising = rw c.in_ok-rising.ensures.items at c.sort_unstable_by.ensures.permutation in
    let same : map left seats ≡ rising = rw c.deref.ensures.value at c.in_ok-seats.ensures in
    IsPermutation-trans ls (map left seats) (map left c.sort_unstable_by-2.new.self.items) (subst (IsPermutation ls) (sym same) first) (IsPermutation-map left seats c.sort_unstable_by-2.new.self.items c.sort_unstable_by-2.ensures.permutation)
