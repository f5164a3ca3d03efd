use Rattle.std.proofs.Common.{rules, arith, SFits, ◌-◌, ◌^◌}
use Rattle.std.specs.Prelude.{negsuc, ◌≤ℤ◌}
use Rattle.std.proofs.lemmas.Int.{ints}
use Rattle.std.proofs.Math.Facts.{to_z-of_z}
use mir.Syntax.{w128}
use Rattle.fz_disjunctive.proofs.Ordering.{overloaded, lt_of}
use Rattle.fz_disjunctive.proofs.order.soonest_ends.Goals as goal

pub returns-then-end-time : goal.returns-then-end-time
returns-then-end-time c =
    let time_fits : SFits w128 c.latest_end-time.result = search rules in
    let end_fits : SFits w128 c.soonest_end-end.result = search rules in
    let soonest = rw (to_z-of_z time_fits) at c.soonest_end-end.ensures in
    let from : negsuc (2 ^ 127 - 1) ≤ℤ c.latest_end-time.result = let near = c.latest_end-time.type_inv in omega (arith, ints, near) in
    let above = rw (to_z-of_z time_fits, to_z-of_z end_fits) at c.if-end-time.true in
    overloaded c.args.jobs.now _ c.latest_end-time.result c.soonest_end-end.result from soonest (lt_of c.latest_end-time.result c.soonest_end-end.result above)
