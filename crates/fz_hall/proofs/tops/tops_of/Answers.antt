use Rattle.std.proofs.Common.{◌<◌, length, get_or, refl, rules}
use Rattle.fz_hall.specs.Seats.{IsTop, nobody}
use Rattle.fz_hall.proofs.Seating.{no_tops, tops_more}
use Rattle.fz_hall.proofs.tops.tops_of.Goals as goal

pub loop-place-init : goal.loop-place-init
loop-place-init c = record { tops = no_tops c.args.seats.now c.in_ok-tops.tops.items c.in_ok-tops.ensures.items; size = rw c.in_ok-tops.ensures.items refl }

pub loop-place-preserved : goal.loop-place-preserved
loop-place-preserved c =
    let ss = c.args.seats.now in
    let ts = c.loop-place.tops.items in
    let size = c.loop-place.invariant.size in
    let within : length ts < length ss = rw size c.loop-place-test.true in
    let here : IsTop ss (get_or ss (length ts) nobody) c.top_at-top.result.number = rw size c.top_at-top.ensures in
    record {
      tops = rw c.in_ok-push.ensures.items (tops_more ss ts c.top_at-top.result within c.loop-place.invariant.tops here);
      size = search rules;
    }
