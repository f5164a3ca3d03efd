use Rattle.std.proofs.Common.{◌≡◌, ◌∙◌, ◌+ℤ◌, ◌<◌, ◌^◌, arith, rules, pos, to_z, w32}
use Rattle.std.specs.Prelude.{ℤ}
use mir.Syntax.{w128}
use mir.Val.{SFits}
use Rattle.std.proofs.lemmas.Int.{ints}
use Rattle.std.proofs.Math.Facts.{to_z-of_z}
use Rattle.fz_dom.specs.Shape.{least, greatest}
use Rattle.fz_spec.specs.declared.term.Term.TheVariants.{Num}
use Rattle.fz_strength.specs.Domains.{term_set}
use Rattle.fz_counts.proofs.Totals.{sum_next}
use Rattle.fz_counts.proofs.ends.ends_of.Goals as goal

pub loop-term-preserved : goal.loop-term-preserved
loop-term-preserved c =
    let xs = c.args.terms.now in
    let ds = c.args.store.now.doms in
    let k = c.loop-term.term-index in
    let within = c.loop-term-test.true in
    let few : k < 2 ^ 64 = search rules in
    let l : ℤ = to_z w128 c.loop-term.lowest-bits in
    let h : ℤ = to_z w128 c.loop-term.highest-bits in
    let bottom = c.least_of.result in
    let top = c.greatest_of.result in
    let fits_bottom : SFits w32 bottom = search rules in
    let fits_top : SFits w32 top = search rules in
    let fits_1 : SFits w128 c.from-lowest.result = search rules in
    let fits_2 : SFits w128 c.from-highest.result = search rules in
    let is_bottom : c.from-lowest.result ≡ bottom = c.from-lowest.ensures ∙ to_z-of_z fits_bottom in
    let is_top : c.from-highest.result ≡ top = c.from-highest.ensures ∙ to_z-of_z fits_top in
    let low = c.loop-term.invariant.low.0 in
    let low_top = c.loop-term.invariant.low.1 in
    let high = c.loop-term.invariant.high.0 in
    let high_top = c.loop-term.invariant.high.1 in
    let fits_low : SFits w128 (l +ℤ bottom) = omega (arith, ints, few, low, low_top, fits_bottom) in
    let fits_high : SFits w128 (h +ℤ top) = omega (arith, ints, few, high, high_top, fits_top) in
    let lows = sum_next (λ t. least (term_set ds t)) xs k (Num (pos 0)) within in
    let highs = sum_next (λ t. greatest (term_set ds t)) xs k (Num (pos 0)) within in
    let is_low = c.loop-term.invariant.lowest in
    let is_high = c.loop-term.invariant.highest in
    let is_least = c.least_of.ensures.least in
    let is_greatest = c.greatest_of.ensures.greatest in
    rw (to_z-of_z fits_1, to_z-of_z fits_2, is_bottom, is_top, to_z-of_z fits_low, to_z-of_z fits_high)
    record {
      lowest = omega (arith, ints, lows, is_low, is_least);
      highest = omega (arith, ints, highs, is_high, is_greatest);
      low = (omega (arith, ints, low, fits_bottom), omega (arith, ints, low_top, fits_bottom));
      high = (omega (arith, ints, high, fits_top), omega (arith, ints, high_top, fits_top));
    }
