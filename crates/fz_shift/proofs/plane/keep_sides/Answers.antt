use Rattle.std.proofs.Common.{rules}
use Rattle.fz_shift.proofs.Kept.{partners_left}
use Rattle.fz_shift.proofs.plane.keep_sides.Goals.{in-Some+in_ok-kept-in-Some, in-None+in_ok-kept-in-None}
use Rattle.fz_shift.proofs.plane.keep_sides.Goals as goal

pub rested-requires-clause-partners : goal.rested-requires-clause-partners
rested-requires-clause-partners c = elim c.match-window_of.branch [
  | in-Some+in_ok-kept-in-Some w ↦ rw w.store-is (partners_left c.args.plane c.args.store.now.doms w.keep_near.new.store.doms (w.in_ok-kept-in-Some.ensures.points (search rules)))
  | in-None+in_ok-kept-in-None w ↦ rw w.store-is (partners_left c.args.plane c.args.store.now.doms w.keep_far.new.store.doms (w.in_ok-kept-in-None.ensures.points (search rules)))
]
