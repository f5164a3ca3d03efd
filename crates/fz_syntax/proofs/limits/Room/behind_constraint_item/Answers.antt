use Rattle.std.proofs.Common.{[], ◌∷◌, map, subst}
use Rattle.std.specs.Prelude.{flat_map}
use Rattle.fz_language.specs.Rules.{AConstraint, all_counted, expression_additions}
use Rattle.fz_syntax.specs.Trees.{expression_of}
use Rattle.fz_syntax.specs.Rooms.{IsBehind}
use Rattle.fz_syntax.proofs.RoomLaws.{both, stops}
use Rattle.fz_syntax.proofs.limits.Room.behind_constraint_item.Goals as goal

pub returns-in-Ok : goal.returns-in-Ok
returns-in-Ok c = λ n h.
    let first = AConstraint c.args.item.now.name.at ∷ [] in
    let read = subst (λ xs. IsBehind (all_counted n first) (flat_map expression_additions (map expression_of xs)) c.behind_arguments.result) c.deref.ensures.value
    (c.behind_arguments.ensures (all_counted n first) (c.in-Ok.ensures n h).0) in
    both n first (flat_map expression_additions (map expression_of c.args.item.now.arguments.items)) c.in-Ok.room c.behind_arguments.result (c.in-Ok.ensures n h) read

pub returns-in-Err : goal.returns-in-Err
returns-in-Err c = λ n h. stops n (AConstraint c.args.item.now.name.at ∷ []) (flat_map expression_additions (map expression_of c.args.item.now.arguments.items)) c.in-Err.at (c.in-Err.ensures n h)
