use Rattle.std.proofs.Common.{◌≡◌, arith, rules}
use Rattle.std.specs.Int.{int_min, int_max}
use Rattle.std.proofs.lemmas.Option.{slice_get-get_or}
use Rattle.std.proofs.Math.Facts.{to_z-of_z}
use mir.Val.{SFits, to_z}
use mir.Syntax.{w32}
use Rattle.fz_alldiff.proofs.Spanning.{between_more, between_all, spanned}
use Rattle.fz_alldiff.proofs.span.close_span.Goals as goal

pub loop-term-preserved : goal.loop-term-preserved
loop-term-preserved c =
    let low = to_z w32 c.loop-term.low-bits in
    let high = to_z w32 c.loop-term.high-bits in
    let fits_l : SFits w32 c.least_of.result = search rules in
    let fits_g : SFits w32 c.greatest_of.result = search rules in
    let fits_m : SFits w32 c.min-low.result = search rules in
    let fits_n : SFits w32 c.max-high.result = search rules in
    let min : c.min-low.result ≡ int_min low c.least_of.result = rw (to_z-of_z fits_l) at c.min-low.ensures.value in
    let max : c.max-high.result ≡ int_max high c.greatest_of.result = rw (to_z-of_z fits_g) at c.max-high.ensures.value in
    rw (to_z-of_z fits_m, to_z-of_z fits_n)
    (between_more c.args.terms.now c.args.store.now.doms low high c.least_of.result c.greatest_of.result c.min-low.result c.max-high.result c.loop-term.term-index _
    (slice_get-get_or c.args.terms.now c.loop-term.term-index _ c.loop-term-test.true) c.least_of.ensures.lower_bound c.greatest_of.ensures.upper_bound min max c.loop-term.invariant)

pub returns-clause-between : goal.returns-clause-between
returns-clause-between c =
    let low = to_z w32 c.loop-term.low-bits in
    let high = to_z w32 c.loop-term.high-bits in
    spanned c.span_between.result c.args.terms.now c.args.store.now.doms low high c.span_between.ensures.low c.span_between.ensures.high
    (between_all c.args.terms.now c.args.store.now.doms low high c.loop-term.term-index (let test = c.loop-term-test.false in omega (arith, test)) c.loop-term.invariant)
