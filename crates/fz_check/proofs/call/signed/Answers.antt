use Rattle.std.proofs.Common.{◌≡◌, ◌∙◌, ◌++◌, [], ap, sym, map, List, subst, append-nil}
use Rattle.std.specs.Prelude.{ℕ, Ok, Err, flat_map}
use Rattle.fz_language.specs.declared.fault.RuleFault.TheVariants.{UnknownName, WrongType}
use Rattle.fz_language.specs.Entries.{with_value}
use Rattle.fz_language.specs.Rules as rules
use Rattle.fz_language.specs.Rules.{at_places, wrong_arguments, unknown_of}
use Rattle.fz_model.specs.Arguments.{argument_of}
use Rattle.fz_syntax.specs.Trees as trees
use Rattle.fz_syntax.specs.declared.expression.Expression.{Expression}
use Rattle.fz_resolve.specs.Meant.{environment_of}
use Rattle.fz_check.specs.Calls.{AreArguments}
use Rattle.fz_check.specs.Checked.{IsFirstOf}
use Rattle.fz_check.specs.Rows.{row_of}
use Rattle.fz_check.proofs.CallLaws.{unknown_names, signed_typed, signed_wrong, length_of_map}
use Rattle.fz_check.proofs.Known.{all_known}
use Rattle.fz_check.proofs.call.signed.Goals as goal

pub returns-in_ok-typed-in-Ok : goal.returns-in_ok-typed-in-Ok
returns-in_ok-typed-in-Ok c =
    let env = environment_of c.args.names.now in
    let item = trees.constraint_item_of c.args.item.now in
    let are = subst (λ (es : List Expression). AreArguments env c.args.signature.now (map trees.expression_of es) (Ok (map argument_of c.in-Ok.arguments.items))) c.deref.ensures.value
    (subst (λ made. AreArguments env c.args.signature.now (map trees.expression_of c.deref.result.now) (with_value (λ arguments. map argument_of arguments.items) made)) c.in-Ok.is c.in_ok-arguments.ensures) in
    let known : flat_map (unknown_of env) item.arguments ≡ [] = all_known env c.args.signature.now item.arguments (c.requires.arity ∙ sym (length_of_map trees.expression_of c.args.item.now.arguments.items)) are.0 in
    λ others e. signed_typed others env item (row_of c.args.row.now) c.args.signature.now (map argument_of c.in-Ok.arguments.items) c.in_ok-typed-in-Ok.field-0 are
    (c.in_ok-typed-in-Ok.ensures (others ++ unknown_names env item)
    (subst (λ (l : List rules.Fault). IsFirstOf l c.args.floats) (sym (ap (λ (u : List ℕ). others ++ at_places UnknownName u) known ∙ append-nil others)) e))

pub returns-in-Err : goal.returns-in-Err
returns-in-Err c =
    let env = environment_of c.args.names.now in
    let item = trees.constraint_item_of c.args.item.now in
    let are = subst (λ (es : List Expression). AreArguments env c.args.signature.now (map trees.expression_of es) (Err c.in-Err.at)) c.deref.ensures.value
    (subst (λ made. AreArguments env c.args.signature.now (map trees.expression_of c.deref.result.now) (with_value (λ arguments. map argument_of arguments.items) made)) c.in-Err.is c.in_ok-arguments.ensures) in
    λ others e. signed_wrong others env item (row_of c.args.row.now) c.args.signature.now c.in-Err.at c.wrong.result are
    (λ rest h. c.wrong.ensures others (at_places WrongType (wrong_arguments env c.args.signature.now item.arguments) ++ rest) e h)
