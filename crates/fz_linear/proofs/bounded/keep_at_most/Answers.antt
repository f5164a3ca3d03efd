use Rattle.std.proofs.Common.{rules, ◌≡◌, refl, pos, ◌-ℤ◌, ◌≤ℤ◌, ◌<ℤ◌, arith}
use Rattle.std.proofs.lemmas.Int.{ints}
use Rattle.std.proofs.Math.Facts.{to_z-of_z}
use mir.Val.{SFits}
use mir.Syntax.{w128}
use Rattle.fz_linear.proofs.Bounds.{too_high, low_enough, at_most_correct, at_most_rests}
use Rattle.fz_linear.proofs.bounded.keep_at_most.Goals as goal

pub returns-then-number-least-clause-answer : goal.returns-then-number-least-clause-answer
returns-then-number-least-clause-answer c =
    let fits_least : SFits w128 c.ends_of-least.result.least = search rules in
    let fits_number : SFits w128 c.from-number.result = search rules in
    let number_is : c.from-number.result ≡ c.args.number = rw (to_z-of_z c.ranges.number) at c.from-number.ensures in
    let test = rw (to_z-of_z fits_number, to_z-of_z fits_least, number_is) at c.if-number-least.true in
    let above : c.args.number <ℤ c.ends_of-least.result.least = grind (arith, ints, test) in
    too_high c.args.sum.now.factors.now c.args.sum.now.terms.now c.args.number c.ends_of-least.result.least c.args.store.now c.args.store.now c.ends_of-least.ensures.domains c.requires.inside
    c.ends_of-least.ensures.least above

pub returns-then-greatest-number-clause-answer : goal.returns-then-greatest-number-clause-answer
returns-then-greatest-number-clause-answer c =
    let fits_greatest : SFits w128 c.ends_of-least.result.greatest = search rules in
    let fits_number : SFits w128 c.from-number.result = search rules in
    let number_is : c.from-number.result ≡ c.args.number = rw (to_z-of_z c.ranges.number) at c.from-number.ensures in
    let test = rw (to_z-of_z fits_greatest, to_z-of_z fits_number, number_is) at c.if-greatest-number.true in
    let below : c.ends_of-least.result.greatest ≤ℤ c.args.number = grind (arith, ints, test) in
    low_enough c.args.sum.now.factors.now c.args.sum.now.terms.now c.args.number c.ends_of-least.result.greatest c.args.store.now c.ends_of-least.ensures.domains c.requires.inside
    c.ends_of-least.ensures.greatest below

pub returns-in_err-tighten_all-clause-correct : goal.returns-in_err-tighten_all-clause-correct
returns-in_err-tighten_all-clause-correct c =
    let fits_least : SFits w128 c.ends_of-least.result.least = search rules in
    let fits_number : SFits w128 c.from-number.result = search rules in
    let number_is : c.from-number.result ≡ c.args.number = rw (to_z-of_z c.ranges.number) at c.from-number.ensures in
    let slack : pos c.gap-slack.result ≡ c.args.number -ℤ c.ends_of-least.result.least = rw (to_z-of_z fits_number, to_z-of_z fits_least, number_is) at c.gap-slack.ensures in
    at_most_correct c.args.sum.now.factors.now c.args.sum.now.terms.now c.args.number c.ends_of-least.result.least (pos c.gap-slack.result) c.args.store.now c.tighten_all.new.store
    c.ends_of-least.ensures.least slack c.in_err-tighten_all.ensures.kept

pub returns-then-branch-clause-correct : goal.returns-then-branch-clause-correct
returns-then-branch-clause-correct c =
    let fits_least : SFits w128 c.ends_of-least.result.least = search rules in
    let fits_number : SFits w128 c.from-number.result = search rules in
    let number_is : c.from-number.result ≡ c.args.number = rw (to_z-of_z c.ranges.number) at c.from-number.ensures in
    let slack : pos c.gap-slack.result ≡ c.args.number -ℤ c.ends_of-least.result.least = rw (to_z-of_z fits_number, to_z-of_z fits_least, number_is) at c.gap-slack.ensures in
    at_most_correct c.args.sum.now.factors.now c.args.sum.now.terms.now c.args.number c.ends_of-least.result.least (pos c.gap-slack.result) c.args.store.now c.tighten_all.new.store
    c.ends_of-least.ensures.least slack c.in_ok-tighten_all.ensures.kept

pub returns-then-is_loose-clause-answer : goal.returns-then-is_loose-clause-answer
returns-then-is_loose-clause-answer c =
    let fits_least : SFits w128 c.ends_of-least.result.least = search rules in
    let fits_number : SFits w128 c.from-number.result = search rules in
    let number_is : c.from-number.result ≡ c.args.number = rw (to_z-of_z c.ranges.number) at c.from-number.ensures in
    let low = rw (to_z-of_z fits_number, to_z-of_z fits_least, number_is) at c.if-number-least.false in
    let reached : c.ends_of-least.result.least ≤ℤ c.args.number = grind (arith, ints, low) in
    let slack : pos c.gap-slack.result ≡ c.args.number -ℤ c.ends_of-least.result.least = rw (to_z-of_z fits_number, to_z-of_z fits_least, number_is) at c.gap-slack.ensures in
    at_most_rests c.args.sum.now.factors.now c.args.sum.now.terms.now c.args.number c.ends_of-least.result.least (pos c.gap-slack.result) c.args.store.now c.args.store.now
    c.ends_of-least.ensures.least reached slack (refl, c.ends_of-least.ensures.loose c.gap-slack.result (c.is_loose.ensures.0 c.if-is_loose.true))
