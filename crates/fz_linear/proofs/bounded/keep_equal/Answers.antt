use Rattle.std.proofs.Common.{rules, ◌≡◌, refl, ap, pos, ◌-ℤ◌, ◌≤ℤ◌, ◌<ℤ◌, arith, to_z, of_z}
use Rattle.std.proofs.lemmas.Int.{ints}
use Rattle.std.proofs.Math.Facts.{to_z-of_z}
use mir.Val.{SFits}
use mir.Syntax.{w128}
use Rattle.fz_linear.proofs.Slacks.{near_negated}
use Rattle.fz_linear.proofs.Bounds.{over, under, one_sum, equal_correct, equal_rests}
use Rattle.fz_linear.proofs.bounded.keep_equal.Goals as goal

pub returns-then-number-least-clause-answer : goal.returns-then-number-least-clause-answer
returns-then-number-least-clause-answer c =
    let fits_least : SFits w128 c.ends_of-least.result.least = search rules in
    let fits_number : SFits w128 c.from-number.result = search rules in
    let number_is : c.from-number.result ≡ c.args.number = rw (to_z-of_z c.ranges.number) at c.from-number.ensures in
    let test = rw (to_z-of_z fits_number, to_z-of_z fits_least, number_is) at c.if-number-least.true in
    let above : c.args.number <ℤ c.ends_of-least.result.least = grind (arith, ints, test) in
    over c.args.sum.now.factors.now c.args.sum.now.terms.now c.args.number c.ends_of-least.result.least c.args.store.now c.args.store.now c.ends_of-least.ensures.domains c.requires.inside c.ends_of-least.ensures.least above

pub returns-then-greatest-number-clause-answer : goal.returns-then-greatest-number-clause-answer
returns-then-greatest-number-clause-answer c =
    let fits_greatest : SFits w128 c.ends_of-least.result.greatest = search rules in
    let fits_number : SFits w128 c.from-number.result = search rules in
    let number_is : c.from-number.result ≡ c.args.number = rw (to_z-of_z c.ranges.number) at c.from-number.ensures in
    let test = rw (to_z-of_z fits_greatest, to_z-of_z fits_number, number_is) at c.if-greatest-number.true in
    let below : c.ends_of-least.result.greatest <ℤ c.args.number = grind (arith, ints, test) in
    under c.args.sum.now.factors.now c.args.sum.now.terms.now c.args.number c.ends_of-least.result.greatest c.args.store.now c.args.store.now c.ends_of-least.ensures.domains c.requires.inside c.ends_of-least.ensures.greatest below

pub returns-then-least-greatest-clause-answer : goal.returns-then-least-greatest-clause-answer
returns-then-least-greatest-clause-answer c =
    let fits_least : SFits w128 c.ends_of-least.result.least = search rules in
    let fits_greatest : SFits w128 c.ends_of-least.result.greatest = search rules in
    let fits_number : SFits w128 c.from-number.result = search rules in
    let number_is : c.from-number.result ≡ c.args.number = rw (to_z-of_z c.ranges.number) at c.from-number.ensures in
    let low = rw (to_z-of_z fits_number, to_z-of_z fits_least, number_is) at c.if-number-least.false in
    let reached : c.ends_of-least.result.least ≤ℤ c.args.number = grind (arith, ints, low) in
    let high = rw (to_z-of_z fits_greatest, to_z-of_z fits_number, number_is) at c.if-greatest-number.false in
    let short : c.args.number ≤ℤ c.ends_of-least.result.greatest = grind (arith, ints, high) in
    let whole : to_z w128 (of_z w128 c.ends_of-least.result.least) ≡ to_z w128 (of_z w128 c.ends_of-least.result.greatest) = ap (to_z w128) c.if-least-greatest.true in
    let same : c.ends_of-least.result.least ≡ c.ends_of-least.result.greatest = rw (to_z-of_z fits_least, to_z-of_z fits_greatest) at whole in
    one_sum c.args.sum.now.factors.now c.args.sum.now.terms.now c.args.number c.ends_of-least.result.least c.ends_of-least.result.greatest c.args.store.now c.ends_of-least.ensures.domains c.requires.inside c.ends_of-least.ensures.least c.ends_of-least.ensures.greatest reached short same

pub returns-in_err-tighten_between-clause-correct : goal.returns-in_err-tighten_between-clause-correct
returns-in_err-tighten_between-clause-correct c =
    let fits_least : SFits w128 c.ends_of-least.result.least = search rules in
    let fits_greatest : SFits w128 c.ends_of-least.result.greatest = search rules in
    let fits_number : SFits w128 c.from-number.result = search rules in
    let number_is : c.from-number.result ≡ c.args.number = rw (to_z-of_z c.ranges.number) at c.from-number.ensures in
    let above : pos c.gap-above.result ≡ c.args.number -ℤ c.ends_of-least.result.least = rw (to_z-of_z fits_number, to_z-of_z fits_least, number_is) at c.gap-above.ensures in
    let below : pos c.gap-below.result ≡ c.ends_of-least.result.greatest -ℤ c.args.number = rw (to_z-of_z fits_number, to_z-of_z fits_greatest, number_is) at c.gap-below.ensures in
    equal_correct c.args.sum.now.factors.now c.args.sum.now.terms.now c.args.number c.ends_of-least.result.least c.ends_of-least.result.greatest (pos c.gap-above.result) (pos c.gap-below.result) c.args.store.now c.tighten_between.new.store
    c.ends_of-least.ensures.least c.ends_of-least.ensures.greatest above below c.in_err-tighten_between.ensures.kept

pub returns-then-branch-clause-correct : goal.returns-then-branch-clause-correct
returns-then-branch-clause-correct c =
    let fits_least : SFits w128 c.ends_of-least.result.least = search rules in
    let fits_greatest : SFits w128 c.ends_of-least.result.greatest = search rules in
    let fits_number : SFits w128 c.from-number.result = search rules in
    let number_is : c.from-number.result ≡ c.args.number = rw (to_z-of_z c.ranges.number) at c.from-number.ensures in
    let above : pos c.gap-above.result ≡ c.args.number -ℤ c.ends_of-least.result.least = rw (to_z-of_z fits_number, to_z-of_z fits_least, number_is) at c.gap-above.ensures in
    let below : pos c.gap-below.result ≡ c.ends_of-least.result.greatest -ℤ c.args.number = rw (to_z-of_z fits_number, to_z-of_z fits_greatest, number_is) at c.gap-below.ensures in
    equal_correct c.args.sum.now.factors.now c.args.sum.now.terms.now c.args.number c.ends_of-least.result.least c.ends_of-least.result.greatest (pos c.gap-above.result) (pos c.gap-below.result) c.args.store.now c.tighten_between.new.store
    c.ends_of-least.ensures.least c.ends_of-least.ensures.greatest above below c.in_ok-tighten_between.ensures.kept

pub returns-clause-answer : goal.returns-clause-answer
returns-clause-answer c =
    let fits_least : SFits w128 c.ends_of-least.result.least = search rules in
    let fits_greatest : SFits w128 c.ends_of-least.result.greatest = search rules in
    let fits_number : SFits w128 c.from-number.result = search rules in
    let number_is : c.from-number.result ≡ c.args.number = rw (to_z-of_z c.ranges.number) at c.from-number.ensures in
    let low = rw (to_z-of_z fits_number, to_z-of_z fits_least, number_is) at c.if-number-least.false in
    let reached : c.ends_of-least.result.least ≤ℤ c.args.number = grind (arith, ints, low) in
    let high = rw (to_z-of_z fits_greatest, to_z-of_z fits_number, number_is) at c.if-greatest-number.false in
    let short : c.args.number ≤ℤ c.ends_of-least.result.greatest = grind (arith, ints, high) in
    let above : pos c.gap-above.result ≡ c.args.number -ℤ c.ends_of-least.result.least = rw (to_z-of_z fits_number, to_z-of_z fits_least, number_is) at c.gap-above.ensures in
    let below : pos c.gap-below.result ≡ c.ends_of-least.result.greatest -ℤ c.args.number = rw (to_z-of_z fits_number, to_z-of_z fits_greatest, number_is) at c.gap-below.ensures in
    equal_rests c.args.sum.now.factors.now c.args.sum.now.terms.now c.args.number c.ends_of-least.result.least c.ends_of-least.result.greatest (pos c.gap-above.result) (pos c.gap-below.result) c.args.store.now
    c.tighten_between.new.store c.ends_of-least.ensures.least c.ends_of-least.ensures.greatest reached short above below (rw c.if-branch.false at c.in_ok-tighten_between.ensures.ok)

pub returns-then-are_loose-clause-answer : goal.returns-then-are_loose-clause-answer
returns-then-are_loose-clause-answer c =
    let fits_least : SFits w128 c.ends_of-least.result.least = search rules in
    let fits_greatest : SFits w128 c.ends_of-least.result.greatest = search rules in
    let fits_number : SFits w128 c.from-number.result = search rules in
    let number_is : c.from-number.result ≡ c.args.number = rw (to_z-of_z c.ranges.number) at c.from-number.ensures in
    let low = rw (to_z-of_z fits_number, to_z-of_z fits_least, number_is) at c.if-number-least.false in
    let reached : c.ends_of-least.result.least ≤ℤ c.args.number = grind (arith, ints, low) in
    let high = rw (to_z-of_z fits_greatest, to_z-of_z fits_number, number_is) at c.if-greatest-number.false in
    let short : c.args.number ≤ℤ c.ends_of-least.result.greatest = grind (arith, ints, high) in
    let above : pos c.gap-above.result ≡ c.args.number -ℤ c.ends_of-least.result.least = rw (to_z-of_z fits_number, to_z-of_z fits_least, number_is) at c.gap-above.ensures in
    let below : pos c.gap-below.result ≡ c.ends_of-least.result.greatest -ℤ c.args.number = rw (to_z-of_z fits_number, to_z-of_z fits_greatest, number_is) at c.gap-below.ensures in
    equal_rests c.args.sum.now.factors.now c.args.sum.now.terms.now c.args.number c.ends_of-least.result.least c.ends_of-least.result.greatest (pos c.gap-above.result) (pos c.gap-below.result) c.args.store.now
    c.args.store.now c.ends_of-least.ensures.least c.ends_of-least.ensures.greatest reached short above below (refl, (c.ends_of-least.ensures.loose c.gap-above.result (c.are_loose.ensures.0 c.if-are_loose.true).0), near_negated c.args.sum.now.factors.now c.args.sum.now.terms.now c.args.store.now.doms (pos c.gap-below.result) (c.ends_of-least.ensures.loose c.gap-below.result (c.are_loose.ensures.0 c.if-are_loose.true).1))

pub tighten_between-requires-clause-loose : goal.tighten_between-requires-clause-loose
tighten_between-requires-clause-loose c = c.ends_of-least.ensures.loose
