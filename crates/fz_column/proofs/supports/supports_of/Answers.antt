use Rattle.std.proofs.Common.{◌≡◌, ℤ, ℕ, pos, get_or, arith, rules, to_z, of_z, w32}
use Rattle.std.specs.Prelude.{slice_get, Some}
use Rattle.std.proofs.lemmas.Option.{slice_get-get_or}
use Rattle.fz_column.specs.Supports.{IsAdded}
use Rattle.fz_column.proofs.Filling.{gathered_more, gathered_rows, gathered_words}
use Rattle.fz_column.proofs.supports.supports_of.Goals as goal

pub add-requires-clause-bound : goal.add-requires-clause-bound
add-requires-clause-bound c = λ s is.
    let places = c.args.places.now in
    let k = c.loop-place.place-index in
    let p : ℤ × ℕ = get_or places k (pos 0, 0) in
    let at : slice_get places k ≡ Some p = slice_get-get_or places k (pos 0, 0) c.loop-place-test.true in
    let kept : to_z w32 (of_z w32 p.0) ≡ p.0 = search rules in
    rw kept (c.loop-place.invariant.bound s k p is (omega arith) at)

pub loop-place-preserved : goal.loop-place-preserved
loop-place-preserved c =
    let places = c.args.places.now in
    let k = c.loop-place.place-index in
    let p : ℤ × ℕ = get_or places k (pos 0, 0) in
    let at : slice_get places k ≡ Some p = slice_get-get_or places k (pos 0, 0) c.loop-place-test.true in
    let kept : to_z w32 (of_z w32 p.0) ≡ p.0 = search rules in
    let added : IsAdded c.loop-place.supports.items c.add.new.supports.items p.0 p.1 = rw kept at c.in_ok-add.ensures in
    gathered_more places c.loop-place.supports.items c.add.new.supports.items k p at c.requires.order added c.loop-place.invariant

pub returns-clause-rows : goal.returns-clause-rows
returns-clause-rows c =
    let end = c.loop-place-test.false in
    rw c.shrink_to_fit.ensures.items (gathered_rows c.args.places.now c.loop-place.supports.items c.loop-place.place-index (omega (arith, end)) c.loop-place.invariant)

pub returns-clause-words : goal.returns-clause-words
returns-clause-words c = rw c.shrink_to_fit.ensures.items (gathered_words c.args.places.now c.loop-place.supports.items c.loop-place.place-index c.loop-place.invariant)
