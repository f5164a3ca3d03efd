use Rattle.std.proofs.Common.{◌≡◌, ◌∙◌, List, map, ap, subst, rules}
use Rattle.std.specs.List.Sorted.{IsPermutation}
use Rattle.std.proofs.lemmas.List.{take_all}
use Rattle.std.proofs.lemmas.List.Sorted.{IsPermutation-map}
use Rattle.fz_hall.specs.declared.interval.Interval.{Interval}
use Rattle.fz_hall.specs.declared.seats.Seat.{Seat}
use Rattle.fz_hall.specs.Lefts.{turn}
use Rattle.fz_hall.specs.Seats.{left}
use Rattle.fz_hall.proofs.Turning.{turned_more}
use Rattle.fz_hall.proofs.seats.turned_seats.Goals as goal

pub loop-seat-preserved : goal.loop-seat-preserved
loop-seat-preserved c =
    turned_more c.args.seats.now c.loop-seat.seat-index c.loop-seat.turned.items c.push.new.self.items (record { left = c.turn.result; number = c.opposite.result }) c.loop-seat-test.true c.loop-seat.invariant c.turn.ensures (search rules)

pub returns : goal.returns
returns c =
    let ss = c.args.seats.now in
    let ts = c.loop-seat.turned.items in
    let all : map left ts ≡ map turn (map left ss) = c.loop-seat.invariant ∙ ap (λ (l : List Seat). map turn (map left l)) (take_all c.loop-seat.seat-index ss c.loop-seat-test.false) in
    subst (λ (l : List Interval). IsPermutation l (map left c.reverse.new.self.items)) all (IsPermutation-map left ts c.reverse.new.self.items c.reverse.ensures.permutation)
