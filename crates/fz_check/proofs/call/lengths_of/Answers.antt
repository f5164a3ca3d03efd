use Rattle.std.proofs.Common.{◌∙◌, ◌++◌, ◌∷◌, [], ap, sym, map, List}
use Rattle.std.proofs.lemmas.List.{take_all}
use Rattle.fz_model.specs.Arguments.{argument_of}
use Rattle.fz_model.specs.declared.constraint.Argument.{Argument}
use Rattle.fz_check.proofs.CallLaws.{lengths_more}
use Rattle.fz_check.proofs.call.lengths_of.Goals as goal
use Rattle.fz_spec.specs.Constraints.{list_lengths}

pub loop-argument-preserved : goal.loop-argument-preserved
loop-argument-preserved c =
    c.in_ok-push_length.ensures ∙ ap (λ u. u ++ list_lengths (argument_of c.argument-item.result ∷ [])) c.loop-argument.invariant
    ∙ sym (lengths_more argument_of c.args.arguments.now c.loop-argument.argument-index c.argument-item.result c.loop-argument-test.true c.argument-item.is)

pub returns : goal.returns
returns c = c.loop-argument.invariant ∙ ap (λ (l : List Argument). list_lengths (map argument_of l)) (take_all c.loop-argument.argument-index c.args.arguments.now c.loop-argument-test.false)
