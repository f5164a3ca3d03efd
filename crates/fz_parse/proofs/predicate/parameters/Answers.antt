use Rattle.std.proofs.Common.{List, [], ◌∷◌, map, refl, ap, sym, subst, arith, ◌∙◌}
use Rattle.std.proofs.lemmas.Result.{err_from_is_err_and}
use Rattle.fz_language.specs.Trees as trees
use Rattle.fz_language.specs.Grammar.{flatzinc, rules, Parameters, Listed}
use Rattle.fz_grammar.specs.Reading.{head}
use Rattle.fz_syntax.specs.Trees.{predicate_parameter_of}
use Rattle.fz_parse.specs.Steps.{Read}
use Rattle.fz_grammar.specs.Grammar.{Rule}
use Rattle.fz_parse.proofs.Follows.{reads_by, first, later, ended}
use Rattle.fz_parse.proofs.Lists.{GoesOn, goes_first, goes_next, stops_first, stops_comma, stops_next, reads_end, all_parameters, first_pushed, pushed}
use Rattle.fz_parse.proofs.predicate.parameters.Goals as goal

pub returns-then-is-clause-taken : goal.returns-then-is-clause-taken
returns-then-is-clause-taken c = λ l low.
    let old = c.args.lexer.now.tokens in
    subst (λ (v : List trees.PredicateParameter). Read l (Rule (Listed Parameters) ∷ []) (v, tt) old old) (sym (ap (map predicate_parameter_of) c.new.ensures.items))
    (reads_by (first (rules (Listed Parameters)) (head flatzinc old) c.is.ensures.found c.if-is.true) ended)

pub returns-in_err-parameter-clause-taken : goal.returns-in_err-parameter-clause-taken
returns-in_err-parameter-clause-taken c =
    let p = err_from_is_err_and c.from_residual-in_err-parameter.result c.from_residual-in_err-parameter.ensures.1 in
    rw (p.1, p.2) (λ l low. stops_first Parameters (later (rules (Listed Parameters)) (head flatzinc c.args.lexer.now.tokens) c.is.ensures.found c.if-is.false) (c.in_err-parameter.ensures.taken l low))

pub parameters-init : goal.parameters-init
parameters-init c = (
  omega (arith, c.in_ok-parameter.ensures.forward),
  λ l low.
      subst (λ (v : List trees.PredicateParameter). GoesOn Parameters l (Listed Parameters) c.args.lexer.now.tokens c.parameter.new.lexer.tokens (λ w. w) v)
      (first_pushed predicate_parameter_of c.push.new.self.items c.in_ok-found.found.items c.in_ok-parameter.field-0 c.in_ok-found.ensures.items c.in_ok-push.ensures.items)
      (goes_first Parameters (later (rules (Listed Parameters)) (head flatzinc c.args.lexer.now.tokens) c.is.ensures.found c.if-is.false) (c.in_ok-parameter.ensures.taken l low)),
  c.in_ok-parameter.ensures.same,
)

pub returns-in_err-take-clause-taken : goal.returns-in_err-take-clause-taken
returns-in_err-take-clause-taken c =
    let p = err_from_is_err_and c.from_residual-in_err-take.result c.from_residual-in_err-take.ensures.1 in
    rw (p.1, p.2) (λ l low. stops_comma Parameters (c.parameters.invariant.1 l low) c.is-in-parameters.ensures.found c.parameters-test.true (c.in_err-take.ensures.taken l))

pub returns-in_err-parameter-2-clause-taken : goal.returns-in_err-parameter-2-clause-taken
returns-in_err-parameter-2-clause-taken c =
    let p = err_from_is_err_and c.from_residual-in_err-parameter-2.result c.from_residual-in_err-parameter-2.ensures.1 in
    rw (p.1, p.2) (λ l low. stops_next Parameters (c.parameters.invariant.1 l low) c.is-in-parameters.ensures.found c.parameters-test.true (c.in_ok-take.ensures.taken l refl) (c.in_err-parameter-2.ensures.taken l low))

pub parameters-preserved : goal.parameters-preserved
parameters-preserved c = (
  omega (arith, c.parameters.invariant.0, c.in_ok-take.ensures.forward, c.in_ok-parameter-2.ensures.forward),
  λ l low.
      subst (λ (v : List trees.PredicateParameter). GoesOn Parameters l (Listed Parameters) c.args.lexer.now.tokens c.parameter-in-parameters.new.lexer.tokens (λ w. w) v)
      (pushed predicate_parameter_of c.push-in-parameters.new.self.items c.parameters.found.items c.in_ok-parameter-2.field-0 c.in_ok-push-2.ensures.items)
      (goes_next Parameters (c.parameters.invariant.1 l low) c.is-in-parameters.ensures.found c.parameters-test.true (c.in_ok-take.ensures.taken l refl) (c.in_ok-parameter-2.ensures.taken l low)),
  c.in_ok-parameter-2.ensures.same ∙ c.in_ok-take.ensures.same ∙ c.parameters.invariant.2,
)

pub returns-clause-taken : goal.returns-clause-taken
returns-clause-taken c = λ l low.
    subst (λ (v : List trees.PredicateParameter). Read l (Rule (Listed Parameters) ∷ []) (v, tt) c.args.lexer.now.tokens c.parameters.lexer.tokens) (all_parameters (map predicate_parameter_of c.parameters.found.items))
    (reads_end Parameters (c.parameters.invariant.1 l low) c.is-in-parameters.ensures.found c.parameters-test.false)
