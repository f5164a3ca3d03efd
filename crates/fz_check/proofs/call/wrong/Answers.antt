use Rattle.std.proofs.Common.{◌∙◌, ◌++◌, ap, map, List}
use Rattle.std.specs.Prelude.{flat_map, slice_get}
use Rattle.fz_language.specs.Rules.{unknown_of}
use Rattle.fz_syntax.specs.Trees as trees
use Rattle.fz_syntax.specs.declared.expression.Expression.{Expression}
use Rattle.fz_resolve.specs.Meant.{environment_of}
use Rattle.fz_check.proofs.CallLaws.{unknown_names}
use Rattle.fz_check.proofs.call.wrong.Goals as goal

pub returns : goal.returns
returns c =
    let env = environment_of c.args.names.now in
    let item = trees.constraint_item_of c.args.item.now in
    let names = c.unknown_argument.ensures ∙ ap (λ (es : List Expression). slice_get (flat_map (unknown_of env) (map trees.expression_of es)) 0) c.deref.ensures.value in
    λ others behind e h. c.or_this.ensures (others ++ unknown_names env item) behind (c.or_else.ensures others (unknown_names env item) e (c.fault_at-unknown.ensures (flat_map (unknown_of env) item.arguments) names)) h
