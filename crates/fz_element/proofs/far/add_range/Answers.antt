use Rattle.std.proofs.Common.{◌≡◌, arith, rules, subst}
use Rattle.std.specs.Prelude.{ℤ, pos, ◌+ℤ◌, ◌<ℤ◌, ◌≤ℤ◌}
use Rattle.std.specs.Int.{int_max}
use Rattle.std.proofs.lemmas.Int.{ints, clamps}
use Rattle.std.proofs.Math.Facts.{to_z-of_z}
use mir.Val.{SFits, to_z, of_z}
use mir.Syntax.{w32}
use Rattle.fz_dom.proofs.Kept.{fits_above}
use Rattle.fz_sets.specs.Sets.{IsInSet}
use Rattle.fz_strength.specs.Domains.{term_set}
use Rattle.fz_prop.proofs.Grown.{term_limits}
use Rattle.fz_element.specs.Selecting.{IsPair}
use Rattle.fz_element.proofs.Pairing.{pairs_passed, pairs_more, element_only}
use Rattle.fz_element.proofs.far.add_range.Goals.{then-is_left+in_ok-push+in_ok-push-2, else-is_left}
use Rattle.fz_element.proofs.far.add_range.Goals as goal

pub loop-place-init : goal.loop-place-init
loop-place-init c =
    let fits : SFits w32 c.args.from = search rules in
    rw (to_z-of_z fits) (c.requires.begun, omega (arith, ints), omega (arith, ints, clamps))

pub loop-place-preserved-in_default : goal.loop-place-preserved-in_default
loop-place-preserved-in_default c =
    let j = to_z w32 c.loop-place.place-bits in
    let D : ℤ → Type 0 = λ k. IsInSet (term_set c.args.store.now.doms c.args.index) k in
    let E : ℤ → Type 0 = λ n. IsInSet (term_set c.args.store.now.doms c.args.value) n in
    let fits_end : SFits w32 c.args.until = search rules in
    let fits_j : SFits w32 j = search rules in
    let fits_from : SFits w32 c.args.from = search rules in
    let test = rw (to_z-of_z fits_end) at c.loop-place-test.true in
    let below : j <ℤ c.args.until = grind (arith, ints, test) in
    let next : to_z w32 (of_z w32 (j +ℤ pos 1)) ≡ j +ℤ pos 1 = to_z-of_z (fits_above c.args.until j below fits_j fits_end) in
    let none = c.in_default.ensures in
    let from = rw (to_z-of_z fits_from) at c.loop-place.invariant.1 in
    rw (to_z-of_z fits_from, to_z-of_z fits_end, next) (
      pairs_passed c.args.numbers.now D E c.loop-place.found.places.items c.loop-place.found.numbers.items j (λ n pair. none n pair.stands) c.loop-place.invariant.0,
      omega (arith, ints, from),
      omega (arith, ints, clamps, below),
    )

pub loop-place-preserved : goal.loop-place-preserved
loop-place-preserved c =
    let j = to_z w32 c.loop-place.place-bits in
    let xs = c.args.numbers.now in
    let ds = c.args.store.now.doms in
    let D : ℤ → Type 0 = λ k. IsInSet (term_set ds c.args.index) k in
    let E : ℤ → Type 0 = λ n. IsInSet (term_set ds c.args.value) n in
    let fits_end : SFits w32 c.args.until = search rules in
    let fits_j : SFits w32 j = search rules in
    let fits_from : SFits w32 c.args.from = search rules in
    let test = rw (to_z-of_z fits_end) at c.loop-place-test.true in
    let below : j <ℤ c.args.until = grind (arith, ints, test) in
    let next : to_z w32 (of_z w32 (j +ℤ pos 1)) ≡ j +ℤ pos 1 = to_z-of_z (fits_above c.args.until j below fits_j fits_end) in
    let n = c.in-Some.number in
    let fits_n : SFits w32 n = search rules in
    let stands = c.in-Some.ensures in
    let from = rw (to_z-of_z fits_from) at c.loop-place.invariant.1 in
    let left = c.requires.left j from below in
    let tells = rw (to_z-of_z fits_n) at c.is_left.ensures in
    let before = c.loop-place.invariant.0 in
    rw (to_z-of_z fits_from, to_z-of_z fits_end, next) (
      elim c.if-is_left.branch [
        | then-is_left+in_ok-push+in_ok-push-2 w ↦
            let pair : IsPair xs D E j n = record { stands = stands; index = left; number = tells.0 w.if-is_left.true } in
            rw (w.found-is, w.in_ok-push.ensures.items, w.in_ok-push-2.ensures.items, to_z-of_z fits_n)
            (pairs_more xs D E c.loop-place.found.places.items c.loop-place.found.numbers.items j n pair
            (term_limits ds c.args.index j c.requires.index c.doms.ensures.store.domains c.requires.fits_index left)
            (term_limits ds c.args.value n c.requires.value c.doms.ensures.store.domains c.requires.fits_value pair.number) before)
        | else-is_left w ↦ rw w.found-is
            (pairs_passed xs D E c.loop-place.found.places.items c.loop-place.found.numbers.items j
            (λ m pair. let same = element_only j xs m n pair.stands stands in let no = w.if-is_left.false in let yes = tells.1 (subst E same pair.number) in cc) before)
      ],
      omega (arith, ints, from),
      omega (arith, ints, clamps, below),
    )

pub returns : goal.returns
returns c =
    let fits_end : SFits w32 c.args.until = search rules in
    let test = rw (to_z-of_z fits_end) at c.loop-place-test.false in
    let j = to_z w32 c.loop-place.place-bits in
    let past : c.args.until ≤ℤ j = grind (arith, ints, test) in
    let from = c.loop-place.invariant.1 in
    let to = c.loop-place.invariant.2 in
    let is : j ≡ int_max c.args.from c.args.until = omega (arith, ints, clamps, past, from, to) in
    rw (← is) c.loop-place.invariant.0
