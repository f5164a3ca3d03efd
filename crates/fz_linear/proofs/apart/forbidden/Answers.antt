use Rattle.std.proofs.Common.{rules, ◌≡◌, ◌-ℤ◌, slice_index_or, pos, arith}
use Rattle.std.proofs.lemmas.Int.{ints}
use Rattle.std.proofs.Math.Facts.{to_z-of_z}
use mir.Val.{SFits}
use mir.Syntax.{w32, w64, w128}
use Rattle.fz_spec.specs.declared.term.Term.TheVariants.{Num}
use Rattle.fz_strength.specs.Domains.{term_set}
use Rattle.fz_strength.specs.Sums.{least_product}
use Rattle.fz_linear.proofs.Gaps.{with_others}
use Rattle.fz_linear.proofs.Summing.{at_place}
use Rattle.fz_linear.proofs.apart.forbidden.Goals as goal

pub returns-clause-product : goal.returns-clause-product
returns-clause-product c =
    let ds = c.args.store.now.doms in
    let ks = c.args.sum.now.factors.now in
    let ts = c.args.sum.now.terms.now in
    let i = c.args.place in
    let k = slice_index_or ks i (pos 0) in
    let t = slice_index_or ts i (Num (pos 0)) in
    let fits_factor : SFits w32 k = search rules in
    let fits_sum : SFits w128 c.ends_of-least.result.least = search rules in
    let fits_low : SFits w64 c.product_ends-low.result.0 = search rules in
    let low : c.product_ends-low.result.0 ≡ least_product k (term_set ds t) = rw (to_z-of_z fits_factor) at c.product_ends-low.ensures.least in
    let rest : c.without.result ≡ c.args.number -ℤ (c.ends_of-least.result.least -ℤ c.product_ends-low.result.0) = rw (to_z-of_z c.ranges.number, to_z-of_z fits_sum, to_z-of_z fits_low) at c.without.ensures.rest in
    let all = with_others ks ts i k t ds (at_place ks ts i c.requires.law.same (omega (arith, c.requires.law.same, c.requires.place))) in
    omega (arith, ints, rest, low, all, c.ends_of-least.ensures.least)
