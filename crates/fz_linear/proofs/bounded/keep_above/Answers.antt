use Rattle.std.proofs.Common.{rules, ◌≡◌, refl, pos, ◌+ℤ◌, ◌-ℤ◌, ◌≤ℤ◌, ◌<ℤ◌, arith}
use Rattle.std.proofs.lemmas.Int.{ints}
use Rattle.std.proofs.Math.Facts.{to_z-of_z}
use mir.Val.{SFits}
use mir.Syntax.{w128}
use Rattle.fz_linear.proofs.Slacks.{near_negated}
use Rattle.fz_linear.proofs.Above.{too_low, high_enough, above_correct, above_rests}
use Rattle.fz_linear.proofs.bounded.keep_above.Goals as goal

pub returns-then-greatest-bound-clause-answer : goal.returns-then-greatest-bound-clause-answer
returns-then-greatest-bound-clause-answer c =
    let fits_least : SFits w128 c.ends_of-least.result.least = search rules in
    let fits_greatest : SFits w128 c.ends_of-least.result.greatest = search rules in
    let fits_bound : SFits w128 c.next-bound.result = search rules in
    let bound_is : c.next-bound.result ≡ (c.args.number +ℤ pos 1) = rw (to_z-of_z c.ranges.number) at c.next-bound.ensures.next in
    let test = rw (to_z-of_z fits_greatest, to_z-of_z fits_bound) at c.if-greatest-bound.true in
    let below : c.ends_of-least.result.greatest <ℤ c.next-bound.result = grind (arith, ints, test) in
    too_low c.args.sum.now.factors.now c.args.sum.now.terms.now c.args.number c.next-bound.result c.ends_of-least.result.greatest c.args.store.now c.args.store.now c.ends_of-least.ensures.domains c.requires.inside bound_is c.ends_of-least.ensures.greatest below

pub returns-then-bound-least-clause-answer : goal.returns-then-bound-least-clause-answer
returns-then-bound-least-clause-answer c =
    let fits_least : SFits w128 c.ends_of-least.result.least = search rules in
    let fits_greatest : SFits w128 c.ends_of-least.result.greatest = search rules in
    let fits_bound : SFits w128 c.next-bound.result = search rules in
    let bound_is : c.next-bound.result ≡ (c.args.number +ℤ pos 1) = rw (to_z-of_z c.ranges.number) at c.next-bound.ensures.next in
    let test = rw (to_z-of_z fits_bound, to_z-of_z fits_least) at c.if-bound-least.true in
    let above : c.next-bound.result ≤ℤ c.ends_of-least.result.least = grind (arith, ints, test) in
    high_enough c.args.sum.now.factors.now c.args.sum.now.terms.now c.args.number c.next-bound.result c.ends_of-least.result.least c.args.store.now c.ends_of-least.ensures.domains c.requires.inside bound_is c.ends_of-least.ensures.least above

pub returns-in_err-tighten_all-clause-correct : goal.returns-in_err-tighten_all-clause-correct
returns-in_err-tighten_all-clause-correct c =
    let fits_least : SFits w128 c.ends_of-least.result.least = search rules in
    let fits_greatest : SFits w128 c.ends_of-least.result.greatest = search rules in
    let fits_bound : SFits w128 c.next-bound.result = search rules in
    let bound_is : c.next-bound.result ≡ (c.args.number +ℤ pos 1) = rw (to_z-of_z c.ranges.number) at c.next-bound.ensures.next in
    let slack : pos c.gap-slack.result ≡ (c.ends_of-least.result.greatest -ℤ c.next-bound.result) = rw (to_z-of_z fits_greatest, to_z-of_z fits_bound) at c.gap-slack.ensures in
    above_correct c.args.sum.now.factors.now c.args.sum.now.terms.now c.args.number c.next-bound.result c.ends_of-least.result.greatest (pos c.gap-slack.result) c.args.store.now c.tighten_all.new.store bound_is c.ends_of-least.ensures.greatest slack c.in_err-tighten_all.ensures.kept

pub returns-then-branch-clause-correct : goal.returns-then-branch-clause-correct
returns-then-branch-clause-correct c =
    let fits_least : SFits w128 c.ends_of-least.result.least = search rules in
    let fits_greatest : SFits w128 c.ends_of-least.result.greatest = search rules in
    let fits_bound : SFits w128 c.next-bound.result = search rules in
    let bound_is : c.next-bound.result ≡ (c.args.number +ℤ pos 1) = rw (to_z-of_z c.ranges.number) at c.next-bound.ensures.next in
    let slack : pos c.gap-slack.result ≡ (c.ends_of-least.result.greatest -ℤ c.next-bound.result) = rw (to_z-of_z fits_greatest, to_z-of_z fits_bound) at c.gap-slack.ensures in
    above_correct c.args.sum.now.factors.now c.args.sum.now.terms.now c.args.number c.next-bound.result c.ends_of-least.result.greatest (pos c.gap-slack.result) c.args.store.now c.tighten_all.new.store bound_is c.ends_of-least.ensures.greatest slack c.in_ok-tighten_all.ensures.kept

pub returns-clause-correct : goal.returns-clause-correct
returns-clause-correct c =
    let fits_least : SFits w128 c.ends_of-least.result.least = search rules in
    let fits_greatest : SFits w128 c.ends_of-least.result.greatest = search rules in
    let fits_bound : SFits w128 c.next-bound.result = search rules in
    let bound_is : c.next-bound.result ≡ (c.args.number +ℤ pos 1) = rw (to_z-of_z c.ranges.number) at c.next-bound.ensures.next in
    let slack : pos c.gap-slack.result ≡ (c.ends_of-least.result.greatest -ℤ c.next-bound.result) = rw (to_z-of_z fits_greatest, to_z-of_z fits_bound) at c.gap-slack.ensures in
    above_correct c.args.sum.now.factors.now c.args.sum.now.terms.now c.args.number c.next-bound.result c.ends_of-least.result.greatest (pos c.gap-slack.result) c.args.store.now c.tighten_all.new.store bound_is c.ends_of-least.ensures.greatest slack c.in_ok-tighten_all.ensures.kept

pub returns-clause-answer : goal.returns-clause-answer
returns-clause-answer c =
    let fits_least : SFits w128 c.ends_of-least.result.least = search rules in
    let fits_greatest : SFits w128 c.ends_of-least.result.greatest = search rules in
    let fits_bound : SFits w128 c.next-bound.result = search rules in
    let bound_is : c.next-bound.result ≡ (c.args.number +ℤ pos 1) = rw (to_z-of_z c.ranges.number) at c.next-bound.ensures.next in
    let high = rw (to_z-of_z fits_greatest, to_z-of_z fits_bound) at c.if-greatest-bound.false in
    let reached : c.next-bound.result ≤ℤ c.ends_of-least.result.greatest = grind (arith, ints, high) in
    let slack : pos c.gap-slack.result ≡ (c.ends_of-least.result.greatest -ℤ c.next-bound.result) = rw (to_z-of_z fits_greatest, to_z-of_z fits_bound) at c.gap-slack.ensures in
    above_rests c.args.sum.now.factors.now c.args.sum.now.terms.now c.args.number c.next-bound.result c.ends_of-least.result.greatest (pos c.gap-slack.result) c.args.store.now c.tighten_all.new.store bound_is c.ends_of-least.ensures.greatest reached slack (rw c.if-branch.false at c.in_ok-tighten_all.ensures.ok)

pub returns-then-is_loose-clause-answer : goal.returns-then-is_loose-clause-answer
returns-then-is_loose-clause-answer c =
    let fits_least : SFits w128 c.ends_of-least.result.least = search rules in
    let fits_greatest : SFits w128 c.ends_of-least.result.greatest = search rules in
    let fits_bound : SFits w128 c.next-bound.result = search rules in
    let bound_is : c.next-bound.result ≡ (c.args.number +ℤ pos 1) = rw (to_z-of_z c.ranges.number) at c.next-bound.ensures.next in
    let high = rw (to_z-of_z fits_greatest, to_z-of_z fits_bound) at c.if-greatest-bound.false in
    let reached : c.next-bound.result ≤ℤ c.ends_of-least.result.greatest = grind (arith, ints, high) in
    let slack : pos c.gap-slack.result ≡ (c.ends_of-least.result.greatest -ℤ c.next-bound.result) = rw (to_z-of_z fits_greatest, to_z-of_z fits_bound) at c.gap-slack.ensures in
    above_rests c.args.sum.now.factors.now c.args.sum.now.terms.now c.args.number c.next-bound.result c.ends_of-least.result.greatest (pos c.gap-slack.result) c.args.store.now c.args.store.now bound_is c.ends_of-least.ensures.greatest reached slack (refl, near_negated c.args.sum.now.factors.now c.args.sum.now.terms.now c.args.store.now.doms (pos c.gap-slack.result) (c.ends_of-least.ensures.loose c.gap-slack.result (c.is_loose.ensures.0 c.if-is_loose.true)))
