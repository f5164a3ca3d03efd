use Rattle.std.proofs.Common.{◌∙◌, ◌++◌, ◌∷◌, [], ◌<◌, ◌+◌, List, map, length, arith, refl, sym, ap, subst}
use Rattle.std.proofs.lemmas.List.{map-append}
use Rattle.fz_spec.specs.Constraints as meaning
use Rattle.fz_language.specs.Entries.{with_value}
use Rattle.fz_language.specs.Rules.{arguments_in}
use Rattle.fz_language.specs.Within.{ExpressionFits}
use Rattle.fz_model.specs.Arguments.{argument_of}
use Rattle.fz_model.specs.declared.constraint.Argument.{Argument}
use Rattle.fz_syntax.specs.Trees.{expression_of}
use Rattle.fz_resolve.specs.Meant.{environment_of}
use Rattle.fz_check.proofs.EntryLaws.{at_item}
use Rattle.fz_check.proofs.CallLaws.{SoFar, one_argument, wrong_argument, all_arguments}
use Rattle.fz_check.proofs.call.arguments_of.Goals as goal

pub loop-i-init : goal.loop-i-init
loop-i-init c = record {
  wrong = refl;
  are = ap (λ (vs : List Argument). map argument_of vs ++ arguments_in (environment_of c.args.names.now) c.args.signature.now (map expression_of c.args.expressions.now)) (sym c.in_ok-arguments.ensures.items);
}

pub resolve-requires : goal.resolve-requires
resolve-requires c =
    let within : c.loop-i.i < length c.args.expressions.now = omega (arith, c.requires.arity, c.loop-i-test.true) in
    at_item ExpressionFits expression_of c.args.expressions.now c.loop-i.i c.index-expressions-i.result c.requires.fits within c.index-expressions-i.is

pub loop-i-preserved : goal.loop-i-preserved
loop-i-preserved c =
    let within : c.loop-i.i < length c.args.expressions.now = omega (arith, c.requires.arity, c.loop-i-test.true) in
    subst (λ (made : List meaning.Argument). SoFar (environment_of c.args.names.now) expression_of c.args.signature.now c.args.expressions.now (c.loop-i.i + 1) made)
    (sym (ap (map argument_of) c.in_ok-push-in-Ok.ensures.items ∙ map-append argument_of c.loop-i.arguments.items (c.in-Ok.argument ∷ [])))
    (one_argument (environment_of c.args.names.now) expression_of c.args.signature.now c.args.expressions.now c.loop-i.i _ c.index-expressions-i.result c.loop-i-test.true within c.index-expressions-i.is (map argument_of c.loop-i.arguments.items)
    (argument_of c.in-Ok.argument) (sym (ap (with_value argument_of) c.in-Ok.is) ∙ c.in_ok-argument.ensures) c.loop-i.invariant)

pub returns-in-Err : goal.returns-in-Err
returns-in-Err c =
    let within : c.loop-i.i < length c.args.expressions.now = omega (arith, c.requires.arity, c.loop-i-test.true) in
    wrong_argument (environment_of c.args.names.now) expression_of c.args.signature.now c.args.expressions.now c.loop-i.i _ c.index-expressions-i.result c.loop-i-test.true within c.index-expressions-i.is (map argument_of c.loop-i.arguments.items)
    c.in-Err.at (sym (ap (with_value argument_of) c.in-Err.is) ∙ c.in_ok-argument.ensures) c.loop-i.invariant

pub returns : goal.returns
returns c =
    let w = all_arguments (environment_of c.args.names.now) expression_of c.args.signature.now c.args.expressions.now c.loop-i.i (map argument_of c.loop-i.arguments.items) c.loop-i-test.false c.loop-i.invariant in
    (w.right, w.all)
