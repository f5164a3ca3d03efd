use Rattle.std.proofs.Common.{◌≡◌, sym, Some, rules, w32, SFits}
use Rattle.std.proofs.Math.Facts.{to_z-of_z}
use Rattle.std.specs.Int.{w128}
use Rattle.std.specs.Prelude.{slice_get}
use Rattle.fz_engine.proofs.Shapes.{closed_then}
use Rattle.fz_engine.proofs.stronger.is_closed.Goals as goal

pub returns-then-are_from : goal.returns-then-are_from
returns-then-are_from c =
    let first = c.in-Some.first.now in
    let at : slice_get c.args.cover.now 0 ≡ Some first = sym c.in-Some.ensures.value in
    let fits : SFits w32 first = search rules in
    let wide : SFits w128 c.end_of.result = search rules in
    let end = rw (to_z-of_z fits) at c.end_of.ensures in
    closed_then c.args.variables.now c.args.terms.now c.args.cover.now first c.are_terms_from.result at (rw (to_z-of_z fits) at c.if-are_from.ensures)
    (rw (to_z-of_z fits, to_z-of_z wide, end) at c.are_terms_from.ensures)
