use Rattle.std.proofs.Common.{[], ◌∷◌}
use Rattle.fz_language.specs.Trees.{basic_at}
use Rattle.fz_language.specs.Rules.{AConstraint, all_counted, element_additions}
use Rattle.fz_syntax.specs.Trees.{basic_of}
use Rattle.fz_syntax.proofs.RoomLaws.{both, stops}
use Rattle.fz_syntax.proofs.limits.Room.behind_bound_element.Goals as goal

pub returns-in-Ok : goal.returns-in-Ok
returns-in-Ok c = λ n h.
    let first = (AConstraint (basic_at (basic_of c.args.element.now)) ∷ []) in
    both n first (element_additions (basic_of c.args.element.now)) c.in-Ok.room c.behind_element.result (c.in-Ok.ensures n h) (c.behind_element.ensures (all_counted n first) (c.in-Ok.ensures n h).0)

pub returns-in-Err : goal.returns-in-Err
returns-in-Err c = λ n h. stops n ((AConstraint (basic_at (basic_of c.args.element.now)) ∷ [])) (element_additions (basic_of c.args.element.now)) c.in-Err.at (c.in-Err.ensures n h)
