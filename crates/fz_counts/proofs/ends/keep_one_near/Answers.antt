use Rattle.std.proofs.Common.{rules, arith, SFits, w32}
use mir.Syntax.{w128}
use Rattle.std.specs.Prelude.{ℤ}
use Rattle.std.proofs.lemmas.Int.{ints}
use Rattle.std.proofs.lemmas.Result.{IfOk-weaker}
use Rattle.std.proofs.Math.Facts.{to_z-of_z}
use Rattle.fz_dom.specs.Changes.{IsFromTo}
use Rattle.fz_strength.specs.Domains.{term_set}
use Rattle.fz_prop.specs.Stores.{IsTermChange}
use Rattle.fz_counts.specs.Covers.{IsNearEnds}
use Rattle.fz_counts.proofs.Between.{term_change_as}
use Rattle.fz_counts.proofs.Nearing.{same_term, near_as}
use Rattle.fz_counts.proofs.ends.keep_one_near.Goals as goal

pub returns-then-greatest-high-clause-change : goal.returns-then-greatest-high-clause-change
returns-then-greatest-high-clause-change c =
    let t = c.args.term in
    let d = term_set c.args.store.now.doms t in
    let slack = c.args.slack in
    let low = c.lowered-low.result in
    let high = c.raised-high.result in
    let bottom = c.least_of-least.result in
    let top = c.greatest_of-greatest.result in
    let low_fits : SFits w32 low = search rules in
    let high_fits : SFits w32 high = search rules in
    let bottom_fits : SFits w32 bottom = search rules in
    let top_fits : SFits w32 top = search rules in
    let above_fits : SFits w128 slack.above = search rules in
    let below_fits : SFits w128 slack.below = search rules in
    let lows = rw (to_z-of_z bottom_fits, to_z-of_z top_fits, to_z-of_z below_fits) at c.lowered-low.ensures in
    let highs = rw (to_z-of_z bottom_fits, to_z-of_z top_fits, to_z-of_z above_fits) at c.raised-high.ensures in
    let under = rw (to_z-of_z low_fits, to_z-of_z bottom_fits) at c.if-low-least.true in
    let over = rw (to_z-of_z high_fits, to_z-of_z top_fits) at c.if-greatest-high.true in
    same_term t (IsNearEnds slack d) c.args.store.now
    (λ x is.
    let from = c.least_of-least.ensures.lower_bound x is in
    let to = c.greatest_of-greatest.ensures.upper_bound x is in
    (near_as slack d low high bottom top x c.least_of-least.ensures.least c.greatest_of-greatest.ensures.greatest (lows x from) (highs x to)).0 (omega (arith, ints, under, from), omega (arith, ints, over, to)))

pub returns-clause-change : goal.returns-clause-change
returns-clause-change c =
    let r = c.args.store.now in
    let s = c.keep_range.new.store in
    let t = c.args.term in
    let d = term_set r.doms t in
    let slack = c.args.slack in
    let low = c.lowered-low.result in
    let high = c.raised-high.result in
    let bottom = c.least_of-least.result in
    let top = c.greatest_of-greatest.result in
    let low_fits : SFits w32 low = search rules in
    let high_fits : SFits w32 high = search rules in
    let bottom_fits : SFits w32 bottom = search rules in
    let top_fits : SFits w32 top = search rules in
    let above_fits : SFits w128 slack.above = search rules in
    let below_fits : SFits w128 slack.below = search rules in
    let lows = rw (to_z-of_z bottom_fits, to_z-of_z top_fits, to_z-of_z below_fits) at c.lowered-low.ensures in
    let highs = rw (to_z-of_z bottom_fits, to_z-of_z top_fits, to_z-of_z above_fits) at c.raised-high.ensures in
    IfOk-weaker c.keep_range.result (λ change. IsTermChange change t (λ (x : ℤ). IsFromTo low high x) r s) (λ change. IsTermChange change t (IsNearEnds slack d) r s)
    (λ change h. term_change_as change t (λ (x : ℤ). IsFromTo low high x) (IsNearEnds slack d) r s
    (λ x is. near_as slack d low high bottom top x c.least_of-least.ensures.least c.greatest_of-greatest.ensures.greatest (lows x (c.least_of-least.ensures.lower_bound x is))
    (highs x (c.greatest_of-greatest.ensures.upper_bound x is))) h) (rw (to_z-of_z low_fits, to_z-of_z high_fits) at c.keep_range.ensures.change)
