use Rattle.std.proofs.Common.{◌<◌, ◌^◌, ◌+ℤ◌, pos, arith, rules, w32}
use Rattle.std.proofs.lemmas.Int.{ints}
use Rattle.std.proofs.Math.Facts.{to_z-of_z}
use mir.Val.{SFits}
use Rattle.fz_bits.specs.Words.{AreOnes}
use Rattle.fz_sets.specs.Sets.{IsInSet}
use Rattle.fz_strength.specs.Domains.{term_set}
use Rattle.fz_counts.specs.Covers.{IsInside}
use Rattle.fz_counts.proofs.Words.{none_common, some_common, none_without, some_without, some_below, some_above}
use Rattle.fz_counts.proofs.standing.standing_of.Goals.{then-least-window-via-then-least-window, then-least-window-via-else-least-window+then-window-greatest, then-least-window-via-else-least-window+else-window-greatest+then-without-ne0}
use Rattle.fz_counts.proofs.standing.standing_of.Goals as goal

pub returns-then-greatest-gap : goal.returns-then-greatest-gap
returns-then-greatest-gap c =
    let low = c.if-window-least.true in
    let high = c.if-greatest-gap.true in
    let least = c.least_of-least.result in
    let member = c.least_of-least.ensures.member in
    let inside : IsInside c.args.cover c.args.store.now.doms c.args.term = λ x is.
    (let from = c.least_of-least.ensures.lower_bound x is in
    let to = c.greatest_of-greatest.ensures.upper_bound x is in
    c.requires.cover.gap x (omega (arith, ints, from, low)) (omega (arith, ints, to, high))) in
    (inside, λ out. out least member (inside least member))

pub returns-then-common-eq0 : goal.returns-then-common-eq0
returns-then-common-eq0 c =
    let d = term_set c.args.store.now.doms c.args.term in
    let window = c.args.cover.window in
    let base = window.base in
    let left = c.word_of-left.result in
    let least = c.least_of-least.result in
    let member = c.least_of-least.ensures.member in
    let fits : SFits w32 base = search rules in
    let lefts : AreOnes left (λ j. IsInSet d (base +ℤ pos j)) = rw (to_z-of_z fits) at c.word_of-left.ensures in
    let out = none_common d base left window.bits c.common.result lefts c.common.ensures c.if-common-eq0.true in
    (λ inside. out least member (inside least member), out)

pub returns-then-least-window : goal.returns-then-least-window
returns-then-least-window c =
    let d = term_set c.args.store.now.doms c.args.term in
    let window = c.args.cover.window in
    let base = window.base in
    let left = c.word_of-left.result in
    let fits : SFits w32 base = search rules in
    let lefts : AreOnes left (λ j. IsInSet d (base +ℤ pos j)) = rw (to_z-of_z fits) at c.word_of-left.ensures in
    let both_fits : c.common.result < 2 ^ 64 = search rules in (
      λ inside. elim c.then-least-window.branch [
        | then-least-window-via-then-least-window w ↦
            let below = w.if-least-window.true in
            some_below d base c.least_of-least.result window.bits c.least_of-least.ensures.member (omega (arith, ints, below)) inside
        | then-least-window-via-else-least-window+then-window-greatest w ↦
            let above = w.if-window-greatest.true in
            some_above d base c.greatest_of-greatest.result window.bits c.greatest_of-greatest.ensures.member (omega (arith, ints, above)) inside
        | then-least-window-via-else-least-window+else-window-greatest+then-without-ne0 w ↦
            let rest_fits : w.without.result < 2 ^ 64 = search rules in
            some_without d base left window.bits w.without.result lefts w.without.ensures rest_fits w.if-without-ne0.true inside
      ],
      λ outside. some_common d base left window.bits c.common.result lefts c.common.ensures both_fits c.if-common-eq0.false outside,
    )

pub returns : goal.returns
returns c =
    let d = term_set c.args.store.now.doms c.args.term in
    let window = c.args.cover.window in
    let base = window.base in
    let left = c.word_of-left.result in
    let least = c.least_of-least.result in
    let member = c.least_of-least.ensures.member in
    let fits : SFits w32 base = search rules in
    let lefts : AreOnes left (λ j. IsInSet d (base +ℤ pos j)) = rw (to_z-of_z fits) at c.word_of-left.ensures in
    let low = c.if-least-window.false in
    let high = c.if-window-greatest.false in
    let inside = none_without d base least c.greatest_of-greatest.result left window.bits c.without.result lefts c.without.ensures c.if-without-ne0.false c.least_of-least.ensures.lower_bound
    c.greatest_of-greatest.ensures.upper_bound (omega (arith, ints, low)) (omega (arith, ints, high)) in
    (inside, λ out. out least member (inside least member))
