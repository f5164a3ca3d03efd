use Rattle.std.proofs.Common.{rules, arith, refl, w32}
use Rattle.std.specs.Prelude.{IsTrue, ◌↔◌}
use Rattle.fz_sets.specs.Sets.{IsInSet}
use Rattle.fz_strength.specs.Domains.{term_set}
use Rattle.std.proofs.lemmas.Int.{ints}
use Rattle.std.proofs.Math.Facts.{to_z-of_z}
use mir.Val.{SFits}
use mir.Syntax.{w128}
use Rattle.fz_partners.proofs.solutions.number_in.Goals as goal

pub returns-then-has : goal.returns-then-has
returns-then-has c =
    let n = c.args.number in
    let fits : SFits w128 n = c.ranges.number in
    let fits_low : SFits w32 c.least_of.result = search rules in
    let fits_high : SFits w32 c.greatest_of.result = search rules in
    let wide_low : SFits w128 c.from-low.result = search rules in
    let wide_high : SFits w128 c.from-high.result = search rules in
    let low = rw (to_z-of_z wide_low, to_z-of_z fits, c.from-low.ensures, to_z-of_z fits_low) at c.if-number-low.false in
    let high = rw (to_z-of_z wide_high, to_z-of_z fits, c.from-high.ensures, to_z-of_z fits_high) at c.if-high-number.false in
    let near : SFits w32 n = omega (arith, ints, fits_low, fits_high, low, high) in
    let has : IsTrue c.has.result ↔ IsInSet (term_set c.args.store.now.doms c.args.term) n = rw (to_z-of_z fits, to_z-of_z near) at c.has.ensures in
    rw (to_z-of_z fits, to_z-of_z near) (refl, has.0 c.if-has.true)

pub returns-else-has : goal.returns-else-has
returns-else-has c = λ member.
    let n = c.args.number in
    let fits : SFits w128 n = c.ranges.number in
    let fits_low : SFits w32 c.least_of.result = search rules in
    let fits_high : SFits w32 c.greatest_of.result = search rules in
    let wide_low : SFits w128 c.from-low.result = search rules in
    let wide_high : SFits w128 c.from-high.result = search rules in
    let low = rw (to_z-of_z wide_low, to_z-of_z fits, c.from-low.ensures, to_z-of_z fits_low) at c.if-number-low.false in
    let high = rw (to_z-of_z wide_high, to_z-of_z fits, c.from-high.ensures, to_z-of_z fits_high) at c.if-high-number.false in
    let near : SFits w32 n = omega (arith, ints, fits_low, fits_high, low, high) in
    let has : IsTrue c.has.result ↔ IsInSet (term_set c.args.store.now.doms c.args.term) n = rw (to_z-of_z fits, to_z-of_z near) at c.has.ensures in
    absurd (cc (rw c.if-has.false at (has.1 member)))
