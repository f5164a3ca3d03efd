use Rattle.std.proofs.Common.{◌<ℤ◌, ◌+ℤ◌, pos, ◌<◌, ◌^◌, rules, to_z, w32}
use Rattle.std.proofs.Math.Facts.{to_z-of_z}
use mir.Val.{SFits}
use Rattle.fz_bits.specs.Words.{AreOnes}
use Rattle.fz_sets.specs.Sets.{IsInSet}
use Rattle.fz_strength.specs.Domains.{term_set}
use Rattle.fz_element.proofs.Matching.{AreFoundOf, found_first, found_more, found_next, found_all}
use Rattle.fz_element.proofs.words.found_in.Goals as goal

pub places-init : goal.places-init
places-init c =
    let first = c.least_of-place.result in
    let fits_base : SFits w32 c.args.base = search rules in
    let fits_first : SFits w32 first = search rules in
    rw (to_z-of_z fits_base, to_z-of_z fits_first) (
      c.least_of-place.ensures.member,
      found_first c.args.terms.now c.args.index c.args.value c.args.store.now.doms c.args.base first c.least_of-place.ensures.lower_bound,
    )

pub returns-in_default : goal.returns-in_default
returns-in_default c =
    let b = c.args.base in
    let j = to_z w32 c.places.place-bits in
    let xs = c.args.terms.now in
    let k = c.args.index in
    let v = c.args.value in
    let ds = c.args.store.now.doms in
    let fits_base : SFits w32 b = search rules in
    let fits : c.common-shared.result < 2 ^ 64 = search rules in
    let here : AreOnes c.word_of.result (λ i. IsInSet (term_set ds c.in_ok-term.term) (b +ℤ pos i)) = rw (to_z-of_z fits_base) at c.word_of.ensures in
    let so_far : AreFoundOf (λ i. i <ℤ j) xs k v ds b c.places.found = rw (to_z-of_z fits_base) at c.places.invariant.1 in
    found_all xs k v ds b j c.either-found.result c.in_default.ensures
    (found_more xs k v c.in_ok-term.term ds b j c.args.wanted c.word_of.result c.common-shared.result c.places.found c.either-found.result c.in_ok-term.ensures c.places.invariant.0
    c.requires.wanted here c.common-shared.ensures fits c.if-shared-eq0.false c.either-found.ensures so_far)

pub places-preserved : goal.places-preserved
places-preserved c =
    let b = c.args.base in
    let j = to_z w32 c.places.place-bits in
    let xs = c.args.terms.now in
    let k = c.args.index in
    let v = c.args.value in
    let ds = c.args.store.now.doms in
    let fits_base : SFits w32 b = search rules in
    let fits_next : SFits w32 c.in-Some.next = search rules in
    let fits : c.common-shared.result < 2 ^ 64 = search rules in
    let here : AreOnes c.word_of.result (λ i. IsInSet (term_set ds c.in_ok-term.term) (b +ℤ pos i)) = rw (to_z-of_z fits_base) at c.word_of.ensures in
    let so_far : AreFoundOf (λ i. i <ℤ j) xs k v ds b c.places.found = rw (to_z-of_z fits_base) at c.places.invariant.1 in
    rw (to_z-of_z fits_base, to_z-of_z fits_next) (
      c.in-Some.ensures.0,
      found_next xs k v ds b j c.in-Some.next c.either-found.result c.in-Some.ensures
          (found_more xs k v c.in_ok-term.term ds b j c.args.wanted c.word_of.result c.common-shared.result c.places.found c.either-found.result c.in_ok-term.ensures c.places.invariant.0
          c.requires.wanted here c.common-shared.ensures fits c.if-shared-eq0.false c.either-found.ensures so_far),
    )
