use Rattle.std.proofs.Common.{◌≡◌, get_or, rules}
use Rattle.std.specs.Prelude.{◌≤ℤ◌, slice_get, Some}
use Rattle.std.proofs.lemmas.Option.{slice_get-get_or}
use Rattle.fz_hall.specs.Seats.{nobody}
use Rattle.fz_hall.proofs.Seating.{read_at, passed_by}
use Rattle.fz_hall.proofs.tops.is_passed.Goals as goal

pub returns-then-other-seat : goal.returns-then-other-seat
returns-then-other-seat c = λ yes.
    let ss = c.args.seats.now in
    let s = get_or ss c.args.place nobody in
    let other = c.in-Some-Some.other.now in
    let top = c.in-Some-Some.top.now in
    let at_other : slice_get ss c.saturating_add-low.result ≡ Some other = read_at ss c.saturating_add-low.result other c.in-Some-Some.ensures.lookup.3.0 c.in-Some-Some.ensures.lookup.1 in
    let at_top : slice_get c.args.tops.now c.saturating_add-low.result ≡ Some top = read_at c.args.tops.now c.saturating_add-low.result top c.in-Some-Some.ensures'.lookup.3.0 c.in-Some-Some.ensures'.lookup.1 in
    let begins : other.number ≡ s.left.low = search rules in
    let to : s.number ≤ℤ top.number = search rules in
    passed_by ss c.args.place s other top.number c.requires.seated (slice_get-get_or ss c.args.place nobody c.requires.place) (c.requires.tops c.saturating_add-low.result other top at_other at_top) begins to
