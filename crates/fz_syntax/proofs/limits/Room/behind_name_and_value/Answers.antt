use Rattle.std.proofs.Common.{[], ◌∷◌}
use Rattle.std.specs.Prelude.{option_map}
use Rattle.fz_language.specs.Rules.{AVariable, all_counted, value_additions}
use Rattle.fz_syntax.specs.Trees.{basic_of}
use Rattle.fz_syntax.proofs.RoomLaws.{both, stops}
use Rattle.fz_syntax.proofs.limits.Room.behind_name_and_value.Goals as goal

pub returns-in-Ok : goal.returns-in-Ok
returns-in-Ok c = λ n h.
    let first = (AVariable c.args.name.at ∷ []) in
    both n first (value_additions (option_map basic_of c.args.value.now)) c.in-Ok.room c.behind_optional.result (c.in-Ok.ensures n h) (c.behind_optional.ensures (all_counted n first) (c.in-Ok.ensures n h).0)

pub returns-in-Err : goal.returns-in-Err
returns-in-Err c = λ n h. stops n ((AVariable c.args.name.at ∷ [])) (value_additions (option_map basic_of c.args.value.now)) c.in-Err.at (c.in-Err.ensures n h)
