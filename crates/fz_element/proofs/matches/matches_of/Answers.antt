use Rattle.std.proofs.Common.{◌≡◌, List, ◌∷◌, [], ◌++◌, arith, rules}
use Rattle.std.specs.Prelude.{ℤ, pos, ◌+ℤ◌, ◌<ℤ◌, ◌↔◌}
use Rattle.std.proofs.lemmas.Int.{ints}
use Rattle.std.proofs.Math.Facts.{to_z-of_z}
use mir.Val.{SFits, to_z, of_z}
use mir.Syntax.{w32}
use Rattle.fz_sets.specs.Sets.{IsInSet}
use Rattle.fz_dom.specs.Shape.{IsDomain}
use Rattle.fz_dom.proofs.Kept.{fits_above}
use Rattle.fz_strength.specs.VariableElements.{IsMatch}
use Rattle.fz_prop.proofs.Grown.{term_limits}
use Rattle.fz_element.specs.Matching.{IsMatchedAt}
use Rattle.fz_element.proofs.Matching.{stands_to, matches_passed, matches_more, matches_all, AreMatchesBelow}
use Rattle.fz_element.proofs.matches.matches_of.Goals.{in-Some+in_ok-push-in-Some+in_ok-add_ranges-in-Some+in-Heap-1, in-Some+in_ok-push-in-Some+in_ok-add_ranges-in-Some+in-Inline-1, in-None}
use Rattle.fz_element.proofs.matches.matches_of.Goals as goal

pub loop-place-preserved : goal.loop-place-preserved
loop-place-preserved c =
    let j = to_z w32 c.loop-place.place-bits in
    let xs = c.args.terms.now in
    let ds = c.args.store.now.doms in
    let k = c.args.index in
    let v = c.args.value in
    let places = c.loop-place.places.items in
    let found = c.loop-place.found.items in
    let fits_end : SFits w32 c.index_end-end.result = search rules in
    let fits_j : SFits w32 j = search rules in
    let test = rw (to_z-of_z fits_end) at c.loop-place-test.true in
    let below : j <ℤ c.index_end-end.result = grind (arith, ints, test) in
    let next : to_z w32 (of_z w32 (j +ℤ pos 1)) ≡ j +ℤ pos 1 = to_z-of_z (fits_above c.index_end-end.result j below fits_j fits_end) in
    let more : (d : List (ℤ × ℤ)) → (IsMatchedAt xs k v ds j × IsDomain d × ((n : ℤ) → IsInSet d n ↔ IsMatch xs k v ds j n))
    → AreMatchesBelow xs k v ds (places ++ (j, j) ∷ []) (found ++ d) (j +ℤ pos 1) = λ d h.
    matches_more xs k v ds places found d j h.0 h.2 (term_limits ds k j c.requires.index c.doms.ensures.store.domains c.requires.fits_index h.0.1.index) h.1.1 c.loop-place.invariant in
    elim c.match-branch-3.branch [
      | in-Some+in_ok-push-in-Some+in_ok-add_ranges-in-Some+in-Heap-1 w ↦
          rw (w.places-is, w.found-is, w.in_ok-push-in-Some.ensures.items, w.in_ok-add_ranges-in-Some.ensures, next) (more w.in-Some.numbers (rw w.in-Some.is at c.in_ok-numbers.ensures))
      | in-Some+in_ok-push-in-Some+in_ok-add_ranges-in-Some+in-Inline-1 w ↦
          rw (w.places-is, w.found-is, w.in_ok-push-in-Some.ensures.items, w.in_ok-add_ranges-in-Some.ensures, next) (more w.in-Some.numbers (rw w.in-Some.is at c.in_ok-numbers.ensures))
      | in-None w ↦ rw (w.places-is, w.found-is, next) (matches_passed xs k v ds places found j (rw w.in-None.is at c.in_ok-numbers.ensures) c.loop-place.invariant)
    ]

pub returns-clause-matches : goal.returns-clause-matches
returns-clause-matches c =
    let j = to_z w32 c.loop-place.place-bits in
    let xs = c.args.terms.now in
    let ds = c.args.store.now.doms in
    let k = c.args.index in
    let v = c.args.value in
    let fits_end : SFits w32 c.index_end-end.result = search rules in
    let test = rw (to_z-of_z fits_end) at c.loop-place-test.false in
    let all : (i n : ℤ) → IsMatch xs k v ds i n → i <ℤ j = λ i n m.
    let below = c.index_end-end.ensures.above i (stands_to i xs m.term m.stands) m.index in grind (arith, ints, test, below) in
    matches_all xs k v ds c.loop-place.places.items c.loop-place.found.items c.in_ok-indices.indices c.in_ok-numbers-2.numbers j all c.loop-place.invariant
    (rw c.deref.ensures.value at c.in_ok-indices.ensures.one_set) (rw c.deref-2.ensures.value at c.in_ok-numbers-2.ensures.one_set)
