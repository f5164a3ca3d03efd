use Rattle.std.proofs.Common.{◌∷◌}
use Rattle.std.specs.Prelude.{option_map}
use Rattle.fz_language.specs.Rules.{AVariable, all_counted, type_additions, value_additions}
use Rattle.fz_syntax.specs.Trees.{basic_of, type_of}
use Rattle.fz_syntax.proofs.RoomLaws.{both, stops}
use Rattle.fz_syntax.proofs.limits.Room.behind_variable_item.Goals as goal

pub returns-in-Ok : goal.returns-in-Ok
returns-in-Ok c = λ n h.
    let first = type_additions (type_of c.args.item.now.value_type) in
    both n first (AVariable c.args.item.now.name.at ∷ value_additions (option_map basic_of c.args.item.now.value)) c.in-Ok.room c.behind_name_and_value.result (c.in-Ok.ensures n h) (c.behind_name_and_value.ensures (all_counted n first) (c.in-Ok.ensures n h).0)

pub returns-in-Err : goal.returns-in-Err
returns-in-Err c = λ n h. stops n (type_additions (type_of c.args.item.now.value_type)) (AVariable c.args.item.now.name.at ∷ value_additions (option_map basic_of c.args.item.now.value)) c.in-Err.at (c.in-Err.ensures n h)
