use Rattle.std.proofs.Common.{rules, ◌≡◌, true, arith}
use Rattle.std.specs.Prelude.{pos}
use Rattle.std.proofs.lemmas.Int.{ints}
use Rattle.std.proofs.Math.Facts.{to_z-of_z}
use mir.Val.{SFits}
use mir.Syntax.{w128}
use Rattle.fz_prop.specs.Truths.{TruthWith, LineWith, IsAbout}
use Rattle.fz_linear.specs.Sums.{SumTruth}
use Rattle.fz_linear.proofs.Slacks.{sums_rise}
use Rattle.fz_linreif.proofs.Shown.{strict_sides, shown_one, refuted_zero, decided_correct, decided_answer}
use Rattle.fz_linreif.proofs.follow.decide.Goals as goal

pub is_shown-requires : goal.is_shown-requires
is_shown-requires c =
    let fits_low : SFits w128 c.ends_of-least.result.least = search rules in
    let fits_high : SFits w128 c.ends_of-least.result.greatest = search rules in
    let rise = sums_rise c.args.sum.now.factors.now c.args.sum.now.terms.now c.args.store.now.doms c.ends_of-least.ensures.domains c.requires.inside in
    rw (to_z-of_z fits_low, to_z-of_z fits_high) (record { rising = omega (arith, ints, c.ends_of-least.ensures.least, c.ends_of-least.ensures.greatest, rise) })

pub is_refuted-requires : goal.is_refuted-requires
is_refuted-requires c =
    let fits_low : SFits w128 c.ends_of-least.result.least = search rules in
    let fits_high : SFits w128 c.ends_of-least.result.greatest = search rules in
    let rise = sums_rise c.args.sum.now.factors.now c.args.sum.now.terms.now c.args.store.now.doms c.ends_of-least.ensures.domains c.requires.inside in
    rw (to_z-of_z fits_low, to_z-of_z fits_high) (record { rising = omega (arith, ints, c.ends_of-least.ensures.least, c.ends_of-least.ensures.greatest, rise) })

about_one : (c : goal.After-settled) → IsAbout c.args.r (λ u. u ≡ pos 1) (TruthWith (SumTruth c.args.relation c.args.sum.now.factors.now c.args.sum.now.terms.now c.args.number) c.args.r) (LineWith (strict_sides c.args.relation c.args.sum.now.factors.now c.args.sum.now.terms.now c.args.number) c.args.r) c.args.store.now.doms
about_one c =
    let fits_low : SFits w128 c.ends_of-least.result.least = search rules in
    let fits_high : SFits w128 c.ends_of-least.result.greatest = search rules in
    let told = rw (to_z-of_z fits_low, to_z-of_z fits_high, to_z-of_z c.ranges.number, c.ends_of-least.ensures.least, c.ends_of-least.ensures.greatest) at c.is_shown.ensures in
    shown_one c.args.relation c.args.sum.now.factors.now c.args.sum.now.terms.now c.args.number c.args.r c.args.store.now c.requires.bounded c.ends_of-least.ensures.domains c.requires.inside c.requires.boolean (told.0 c.if-is_shown.true)

pub returns-then-is_shown-clause-correct : goal.returns-then-is_shown-clause-correct
returns-then-is_shown-clause-correct c =
    decided_correct c.args.relation c.args.sum.now.factors.now c.args.sum.now.terms.now c.args.number c.args.r c.in_ok-change.change (λ u. u ≡ pos 1) c.args.store.now c.keep_only.new.store c.in_ok-change.ensures.change c.in_ok-change.ensures.shrinks (about_one c)

pub returns-then-is_shown-clause-answer : goal.returns-then-is_shown-clause-answer
returns-then-is_shown-clause-answer c =
    rw c.settled.ensures
    (decided_answer c.args.relation c.args.sum.now.factors.now c.args.sum.now.terms.now c.args.number c.args.r c.in_ok-change.change (λ u. u ≡ pos 1) c.args.store.now c.keep_only.new.store c.requires.boolean c.in_ok-change.ensures.change c.in_ok-change.ensures.shrinks (about_one c))

about_zero : (c : goal.After-settled-then-is_refuted) → IsAbout c.args.r (λ u. u ≡ pos 0) (TruthWith (SumTruth c.args.relation c.args.sum.now.factors.now c.args.sum.now.terms.now c.args.number) c.args.r) (LineWith (strict_sides c.args.relation c.args.sum.now.factors.now c.args.sum.now.terms.now c.args.number) c.args.r) c.args.store.now.doms
about_zero c =
    let fits_low : SFits w128 c.ends_of-least.result.least = search rules in
    let fits_high : SFits w128 c.ends_of-least.result.greatest = search rules in
    let told = rw (to_z-of_z fits_low, to_z-of_z fits_high, to_z-of_z c.ranges.number, c.ends_of-least.ensures.least, c.ends_of-least.ensures.greatest) at c.is_refuted.ensures in
    refuted_zero c.args.relation c.args.sum.now.factors.now c.args.sum.now.terms.now c.args.number c.args.r c.args.store.now c.requires.bounded c.ends_of-least.ensures.domains c.requires.inside c.requires.boolean c.requires.truth (told.0 c.if-is_refuted.true)

pub returns-then-is_refuted-clause-correct : goal.returns-then-is_refuted-clause-correct
returns-then-is_refuted-clause-correct c =
    decided_correct c.args.relation c.args.sum.now.factors.now c.args.sum.now.terms.now c.args.number c.args.r c.in_ok-change-2.change (λ u. u ≡ pos 0) c.args.store.now c.keep_only-then-is_refuted.new.store c.in_ok-change-2.ensures.change c.in_ok-change-2.ensures.shrinks (about_zero c)

pub returns-then-is_refuted-clause-answer : goal.returns-then-is_refuted-clause-answer
returns-then-is_refuted-clause-answer c =
    rw c.settled-then-is_refuted.ensures
    (decided_answer c.args.relation c.args.sum.now.factors.now c.args.sum.now.terms.now c.args.number c.args.r c.in_ok-change-2.change (λ u. u ≡ pos 0) c.args.store.now c.keep_only-then-is_refuted.new.store c.requires.boolean c.in_ok-change-2.ensures.change c.in_ok-change-2.ensures.shrinks (about_zero c))

pub follow-requires-clause-not_shown : goal.follow-requires-clause-not_shown
follow-requires-clause-not_shown c =
    let fits_low : SFits w128 c.ends_of-least.result.least = search rules in
    let fits_high : SFits w128 c.ends_of-least.result.greatest = search rules in
    let told = rw (to_z-of_z fits_low, to_z-of_z fits_high, to_z-of_z c.ranges.number, c.ends_of-least.ensures.least, c.ends_of-least.ensures.greatest) at c.is_shown.ensures in
    λ shown. (let yes : c.is_shown.result ≡ true = told.1 (rw (to_z-of_z c.ranges.number) at shown) in absurd (cc (yes, c.if-is_shown.false)))

pub follow-requires-clause-not_refuted : goal.follow-requires-clause-not_refuted
follow-requires-clause-not_refuted c =
    let fits_low : SFits w128 c.ends_of-least.result.least = search rules in
    let fits_high : SFits w128 c.ends_of-least.result.greatest = search rules in
    let told = rw (to_z-of_z fits_low, to_z-of_z fits_high, to_z-of_z c.ranges.number, c.ends_of-least.ensures.least, c.ends_of-least.ensures.greatest) at c.is_refuted.ensures in
    λ refuted. (let yes : c.is_refuted.result ≡ true = told.1 (rw (to_z-of_z c.ranges.number) at refuted) in absurd (cc (yes, c.if-is_refuted.false)))

pub returns-clause-correct : goal.returns-clause-correct
returns-clause-correct c = rw (to_z-of_z c.ranges.number) at c.follow.ensures.correct

pub returns-clause-answer : goal.returns-clause-answer
returns-clause-answer c = rw (to_z-of_z c.ranges.number) at c.follow.ensures.answer
