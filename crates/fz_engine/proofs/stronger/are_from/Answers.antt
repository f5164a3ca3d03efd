use Rattle.std.proofs.Common.{refl, sym, arith, rules, get_or, pos, w32, SFits}
use Rattle.std.proofs.Math.Facts.{to_z-of_z}
use Rattle.std.proofs.lemmas.Option.{slice_get-get_or, slice_get_within}
use Rattle.fz_engine.proofs.Totals.{from_places, not_from, places_more}
use Rattle.fz_engine.proofs.stronger.are_from.Goals as goal

pub returns-then-not-is_behind : goal.returns-then-not-is_behind
returns-then-not-is_behind c =
    let xs = c.args.values.now in
    let place = c.loop-place.place in
    let fits : SFits w32 (get_or xs place (pos 0)) = search rules in
    let tells = rw (to_z-of_z fits, to_z-of_z c.ranges.first) at c.if-not-is_behind.ensures in
    not_from c.args.first xs place (get_or xs place (pos 0)) (slice_get-get_or xs place (pos 0) c.loop-place-test.true) (λ same. absurd (cc (tells.1 same)))

pub loop-place-preserved : goal.loop-place-preserved
loop-place-preserved c =
    let xs = c.args.values.now in
    let place = c.loop-place.place in
    let fits : SFits w32 (get_or xs place (pos 0)) = search rules in
    let tells = rw (to_z-of_z fits, to_z-of_z c.ranges.first) at c.if-not-is_behind.ensures in
    rw (to_z-of_z c.ranges.first) (places_more c.args.first xs place (get_or xs place (pos 0)) (slice_get-get_or xs place (pos 0) c.loop-place-test.true) (tells.0 refl) (rw (to_z-of_z c.ranges.first) at c.loop-place.invariant))

pub returns : goal.returns
returns c =
    let xs = c.args.values.now in
    let end = c.loop-place-test.false in
    let so_far = rw (to_z-of_z c.ranges.first) at c.loop-place.invariant in
    sym (from_places c.args.first xs (λ i x at. let within = slice_get_within xs i x at in so_far i x (omega (arith, within, end)) at))
