use Rattle.std.proofs.Common.{◌≡◌, rules, get_or, subst, w64}
use Rattle.std.proofs.lemmas.List.{take_all}
use Rattle.std.specs.Prelude.{◌≤ℤ◌, ◌<ℤ◌}
use Rattle.std.proofs.Math.Facts.{to_z-of_z}
use mir.Val.{SFits}
use Rattle.fz_hall.specs.Seats.{AreSeated, IsOwn, nobody}
use Rattle.fz_hall.proofs.Seating.{seated_step}
use Rattle.fz_hall.proofs.seats.are_seated.Goals as goal

pub loop-seat-preserved : goal.loop-seat-preserved
loop-seat-preserved c =
    let s = get_or c.args.seats.now c.loop-seat.seat-index nobody in
    let is : c.from-number.result ≡ s.number = search rules in
    let below : c.from-number.result <ℤ c.loop-seat.before = search rules in
    let from : s.left.low ≤ℤ s.number = search rules in
    let to : s.number ≤ℤ s.left.high = search rules in
    let own : IsOwn s = record { from = from; to = to } in
    let step = seated_step c.args.seats.now c.loop-seat.seat-index c.loop-seat.before c.from-number.result c.loop-seat-test.true c.loop-seat.invariant.seated (rw c.loop-seat.before-is at c.loop-seat.invariant.from) own is below in
    let fits : SFits w64 c.from-number.result = search rules in
    record { seated = step.0; from = rw (to_z-of_z fits) step.1 }

pub returns : goal.returns
returns c = λ yes. subst AreSeated (take_all c.loop-seat.seat-index c.args.seats.now c.loop-seat-test.false) c.loop-seat.invariant.seated
