use Rattle.std.proofs.Common.{◌≡◌, ◌+ℤ◌, pos, rules, arith, w32}
use Rattle.std.proofs.lemmas.Int.{ints}
use Rattle.std.proofs.Math.Facts.{to_z-of_z}
use mir.Val.{SFits}
use Rattle.fz_bits.specs.Words.{AreOnes}
use Rattle.fz_sets.specs.Sets.{IsInSet}
use Rattle.fz_strength.specs.Domains.{term_set}
use Rattle.fz_element.specs.Matching.{AreFound}
use Rattle.fz_element.proofs.Matching.{all_found}
use Rattle.fz_element.proofs.words.are_all_matched.Goals as goal

pub returns-in-Some : goal.returns-in-Some
returns-in-Some c = λ e.
    let base = c.least_of-base.result in
    let top = c.greatest_of.result in
    let d = term_set c.args.store.now.doms c.args.value in
    let fits_base : SFits w32 base = search rules in
    let fits_top : SFits w32 top = search rules in
    let near = rw (to_z-of_z fits_base, to_z-of_z fits_top) at (c.is_near.ensures.0 c.if-not-is_near.false) in
    let same : c.in-Some.found ≡ c.word_of-wanted.result = grind (arith, e) in
    let wanted : AreOnes c.word_of-wanted.result (λ j. IsInSet d (base +ℤ pos j)) = rw (to_z-of_z fits_base) at c.word_of-wanted.ensures in
    let found : AreFound c.args.terms.now c.args.index c.args.value c.args.store.now.doms base c.in-Some.found = rw (to_z-of_z fits_base) at c.in-Some.ensures in
    all_found c.args.terms.now c.args.index c.args.value c.args.store.now.doms base c.word_of-wanted.result c.in-Some.found
    (λ n is. let from = c.least_of-base.ensures.lower_bound n is in let to = c.greatest_of.ensures.upper_bound n is in (from, omega (arith, ints, near, to)))
    wanted same found
