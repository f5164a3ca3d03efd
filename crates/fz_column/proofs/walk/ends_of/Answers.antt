use Rattle.std.proofs.Common.{◌≡◌, pos, rules, get_or, to_z, of_z, w32}
use Rattle.std.proofs.lemmas.Option.{slice_get-get_or}
use Rattle.fz_column.specs.declared.supports.Support.{Support}
use Rattle.fz_column.proofs.Walking.{ends_more}
use Rattle.fz_column.proofs.walk.ends_of.Goals as goal

pub loop-place-preserved : goal.loop-place-preserved
loop-place-preserved c =
    let xs = c.args.supports.now in
    let k = c.loop-place.place in
    let none : Support = record { number = pos 0; rows = record { word = 0; bits = 0 } } in
    let s = get_or xs k none in
    let at = slice_get-get_or xs k none c.loop-place-test.true in
    let kept : to_z w32 (of_z w32 s.number) ≡ s.number = search rules in
    rw c.in_ok-push.ensures.items
    (ends_more xs c.loop-place.ends.items k c.count_to.result s c.requires at c.count_to.ensures.bound (rw kept at c.count_to.ensures.to) (rw kept at c.count_to.ensures.above) c.loop-place.invariant)
