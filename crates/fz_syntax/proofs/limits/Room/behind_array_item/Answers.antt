use Rattle.std.proofs.Common.{subst}
use Rattle.std.specs.Prelude.{flat_map}
use Rattle.fz_language.specs.Rules.{all_counted, type_additions, array_element_additions}
use Rattle.fz_syntax.specs.Trees.{elements_of, type_of}
use Rattle.fz_syntax.specs.Rooms.{IsBehind}
use Rattle.fz_syntax.proofs.RoomLaws.{both, stops}
use Rattle.fz_syntax.proofs.limits.Room.behind_array_item.Goals as goal

pub returns-in-Ok : goal.returns-in-Ok
returns-in-Ok c = λ n h.
    let first = type_additions (type_of c.args.item.now.value_type) in
    let given = c.behind_array.ensures (all_counted n first) (c.in-Ok.ensures n h).0 in
    let bound = subst (λ b. IsBehind (all_counted n first) (flat_map (array_element_additions b) (elements_of c.args.item.now.list.elements)) c.behind_array.result) c.binds_elements-is_bound.ensures given in
    both n first _ c.in-Ok.room c.behind_array.result (c.in-Ok.ensures n h) bound

pub returns-in-Err : goal.returns-in-Err
returns-in-Err c = λ n h. stops n (type_additions (type_of c.args.item.now.value_type)) _ c.in-Err.at (c.in-Err.ensures n h)
