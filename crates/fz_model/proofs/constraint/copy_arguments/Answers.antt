use Rattle.std.proofs.Common.{[], ◌∷◌, ◌++◌, map, sym, ap, ap₂, ◌∙◌}
use Rattle.std.proofs.lemmas.List.{map_more, map_push}
use Rattle.fz_model.specs.Arguments.{argument_of}
use Rattle.fz_model.proofs.constraint.copy_arguments.Goals as goal

pub loop-argument-preserved : goal.loop-argument-preserved
loop-argument-preserved c =
    ap (λ u. map argument_of u) c.in_ok-push.ensures.items ∙ map_push argument_of c.loop-argument.copies.items c.in_ok-copy.field-0
    ∙ ap₂ (λ u v. u ++ v ∷ []) c.loop-argument.invariant (c.in_ok-copy.ensures ∙ ap argument_of c.argument-item.is)
    ∙ sym (map_more argument_of c.args.arguments.now c.loop-argument.argument-index c.argument-item.result c.loop-argument-test.true)
