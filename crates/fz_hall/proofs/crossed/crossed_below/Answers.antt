use Rattle.std.proofs.Common.{rules}
use Rattle.fz_hall.specs.Seats.{AreSeated, ArePassed}
use Rattle.fz_hall.proofs.Seating.{clear_below}
use Rattle.fz_hall.proofs.crossed.crossed_below.Goals as goal

pub returns-then-are_passed : goal.returns-then-are_passed
returns-then-are_passed c = λ none.
    let ss = c.args.seats.now in
    let seated : AreSeated ss = search rules in
    let passed : ArePassed ss = search rules in
    clear_below ss seated passed
