use Rattle.fz_language.specs.Rules.{all_counted, members_in, type_additions}
use Rattle.fz_syntax.specs.Trees.{basic_of, type_of}
use Rattle.fz_syntax.proofs.RoomLaws.{both, stops}
use Rattle.fz_syntax.proofs.limits.Room.behind_parameter_item.Goals as goal

pub returns-in-Ok : goal.returns-in-Ok
returns-in-Ok c = λ n h.
    let first = type_additions (type_of c.args.item.now.value_type) in
    both n first (members_in (basic_of c.args.item.now.value)) c.in-Ok.room c.behind_members.result (c.in-Ok.ensures n h) (c.behind_members.ensures (all_counted n first) (c.in-Ok.ensures n h).0)

pub returns-in-Err : goal.returns-in-Err
returns-in-Err c = λ n h. stops n (type_additions (type_of c.args.item.now.value_type)) (members_in (basic_of c.args.item.now.value)) c.in-Err.at (c.in-Err.ensures n h)
