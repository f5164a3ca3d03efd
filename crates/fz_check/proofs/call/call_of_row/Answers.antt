use Rattle.std.proofs.Common.{◌≡◌, ◌∙◌, ap, sym, map, List, length}
use Rattle.std.specs.Prelude.{flat_map, slice_get}
use Rattle.fz_language.specs.declared.fault.RuleFault.TheVariants.{Unsupported}
use Rattle.fz_language.specs.Rules.{at_places, floats_of}
use Rattle.fz_spec.specs.Signatures as signatures
use Rattle.fz_syntax.specs.Trees as trees
use Rattle.fz_syntax.specs.declared.expression.Expression.{Expression}
use Rattle.fz_resolve.specs.Meant.{environment_of}
use Rattle.fz_check.specs.Rows.{row_of}
use Rattle.fz_check.proofs.RowLaws.{signature_length}
use Rattle.fz_check.proofs.CallLaws.{rowed_signed, length_of_map}
use Rattle.fz_check.proofs.call.call_of_row.Goals as goal

pub signed-requires-clause-arity : goal.signed-requires-clause-arity
signed-requires-clause-arity c =
    signature_length (row_of c.args.row.now) (length c.as_slice-arguments.result.now) c.in-Some.signature.now (sym c.in-Some.ensures) ∙ ap length c.as_slice-arguments.ensures.value

pub returns-in_ok-signed-in-Some : goal.returns-in_ok-signed-in-Some
returns-in_ok-signed-in-Some c =
    let item = trees.constraint_item_of c.args.item.now in
    let others = at_places Unsupported (flat_map floats_of item.arguments) in
    let floats = c.first_float_of_arguments.ensures ∙ ap (λ (es : List Expression). slice_get (flat_map floats_of (map trees.expression_of es)) 0) c.deref.ensures.value in
    let count : (length c.as_slice-arguments.result.now) ≡ length item.arguments = ap length c.as_slice-arguments.ensures.value ∙ sym (length_of_map trees.expression_of c.args.item.now.arguments.items) in
    rowed_signed others (environment_of c.args.names.now) item (row_of c.args.row.now) c.in-Some.signature.now c.in_ok-signed-in-Some.field-0
    (sym (ap (signatures.signature_of (row_of c.args.row.now)) count) ∙ sym c.in-Some.ensures)
    (c.in_ok-signed-in-Some.ensures others (c.fault_at-floats.ensures (flat_map floats_of item.arguments) floats))
