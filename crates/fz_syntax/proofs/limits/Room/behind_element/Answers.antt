use Rattle.std.proofs.Common.{[], ◌∷◌}
use Rattle.fz_language.specs.Trees.{basic_at}
use Rattle.fz_language.specs.Rules.{AnElement, members_in, all_counted}
use Rattle.fz_syntax.specs.Trees.{basic_of}
use Rattle.fz_syntax.proofs.RoomLaws.{both, stops}
use Rattle.fz_syntax.proofs.limits.Room.behind_element.Goals as goal

pub returns-in-Ok : goal.returns-in-Ok
returns-in-Ok c = λ n h.
    let first = AnElement (basic_at (basic_of c.args.basic.now)) ∷ [] in
    both n first (members_in (basic_of c.args.basic.now)) c.in-Ok.room c.behind_members.result (c.in-Ok.ensures n h) (c.behind_members.ensures (all_counted n first) (c.in-Ok.ensures n h).0)

pub returns-in-Err : goal.returns-in-Err
returns-in-Err c = λ n h. stops n (AnElement (basic_at (basic_of c.args.basic.now)) ∷ []) (members_in (basic_of c.args.basic.now)) c.in-Err.at (c.in-Err.ensures n h)
