use Rattle.std.proofs.Common.{◌≡◌, get_or, rules, w32}
use Rattle.std.specs.Prelude.{◌≤ℤ◌, slice_get, Some}
use Rattle.std.specs.Int.{int_max}
use Rattle.std.proofs.Math.Facts.{to_z-of_z}
use Rattle.std.proofs.lemmas.Option.{slice_get-get_or}
use mir.Val.{SFits}
use Rattle.fz_hall.specs.Seats.{IsTop, nobody}
use Rattle.fz_hall.proofs.Seating.{read_at, top_own, top_more, top_max}
use Rattle.fz_hall.proofs.tops.top_at.Goals as goal

pub loop-step-init : goal.loop-step-init
loop-step-init c =
    let s = get_or c.args.seats.now c.args.place nobody in
    let fits : SFits w32 s.left.high = search rules in
    rw (to_z-of_z fits) (top_own c.args.seats.now c.args.place s c.requires.seated (slice_get-get_or c.args.seats.now c.args.place nobody c.requires.place))

pub loop-step-preserved : goal.loop-step-preserved
loop-step-preserved c =
    let ss = c.args.seats.now in
    let s = get_or ss c.args.place nobody in
    let other = c.in-Some-Some.other.now in
    let top = c.in-Some-Some.top.now in
    let at_other : slice_get ss c.in-Some.next ≡ Some other = read_at ss c.in-Some.next other c.in-Some-Some.ensures.lookup.3.0 c.in-Some-Some.ensures.lookup.1 in
    let at_top : slice_get c.args.tops.now c.in-Some.next ≡ Some top = read_at c.args.tops.now c.in-Some.next top c.in-Some-Some.ensures'.lookup.3.0 c.in-Some-Some.ensures'.lookup.1 in
    let from : s.number ≤ℤ other.number = search rules in
    let to : other.number ≤ℤ c.loop-step.number = search rules in
    let value : c.max-number.result ≡ int_max c.loop-step.number top.number = search rules in
    let fits : SFits w32 c.max-number.result = search rules in
    let so_far : IsTop ss s c.loop-step.number = rw c.loop-step.number-is at c.loop-step.invariant in
    rw (to_z-of_z fits, value) (top_max ss s c.loop-step.number top.number so_far (top_more ss s other c.loop-step.number top.number so_far (c.requires.tops c.in-Some.next other top at_other at_top) from to))
