use Rattle.std.proofs.Common.{rules, pos, get_or, w32}
use Rattle.std.specs.Prelude.{◌≤ℤ◌}
use Rattle.std.proofs.Math.Facts.{to_z-of_z}
use mir.Val.{SFits}
use Rattle.fz_dom.specs.Shape.{least, greatest}
use Rattle.fz_spec.specs.declared.term.Term.TheVariants.{Num}
use Rattle.fz_strength.specs.Domains.{term_set}
use Rattle.fz_hall.proofs.Tallies.{span_more}
use Rattle.fz_hall.proofs.counts.span_of.Goals as goal

pub loop-term-preserved : goal.loop-term-preserved
loop-term-preserved c =
    let xs = c.args.terms.now in
    let ds = c.args.store.now.doms in
    let t = get_or xs c.loop-term.term-index (Num (pos 0)) in
    let low_fits : SFits w32 c.min.result = search rules in
    let high_fits : SFits w32 c.max.result = search rules in
    let before : c.min.result ≤ℤ c.loop-term.span.low = search rules in
    let after : c.loop-term.span.high ≤ℤ c.max.result = search rules in
    let least_is = c.ends_of-left.ensures.low in
    let greatest_is = c.ends_of-left.ensures.high in
    let low_bound : c.min.result ≤ℤ c.ends_of-left.result.low = search rules in
    let high_bound : c.ends_of-left.result.high ≤ℤ c.max.result = search rules in
    let from : c.min.result ≤ℤ least (term_set ds t) = rw least_is at low_bound in
    let to : greatest (term_set ds t) ≤ℤ c.max.result = rw greatest_is at high_bound in
    rw (to_z-of_z low_fits, to_z-of_z high_fits) (span_more ds c.loop-term.span.low c.loop-term.span.high c.min.result c.max.result xs c.loop-term.term-index c.loop-term-test.true before after c.loop-term.invariant (record { from = from; to = to }))
