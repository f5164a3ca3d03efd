use Rattle.std.proofs.Common.{[], ◌∷◌}
use Rattle.fz_language.specs.Rules.{AConstraint, all_counted, element_additions}
use Rattle.fz_syntax.specs.Trees.{integer_basic_of}
use Rattle.fz_syntax.proofs.RoomLaws.{both}
use Rattle.fz_syntax.proofs.limits.Room.behind_bound_integer.Goals as goal

pub returns-in-Ok : goal.returns-in-Ok
returns-in-Ok c = λ n h.
    let first = AConstraint c.args.integer.at ∷ [] in
    both n first (element_additions (integer_basic_of c.args.integer)) c.in-Ok.room c.behind_number.result (c.in-Ok.ensures n h) (c.behind_number.ensures (all_counted n first) (c.in-Ok.ensures n h).0)
