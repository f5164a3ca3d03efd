use Rattle.std.proofs.Common.{List, [], ◌∷◌, map, refl, ap, sym, subst, arith, ◌∙◌}
use Rattle.std.proofs.lemmas.Result.{err_from_is_err_and}
use Rattle.fz_language.specs.Trees as trees
use Rattle.fz_language.specs.Grammar.{flatzinc, rules, Expressions, Listed}
use Rattle.fz_grammar.specs.Reading.{head}
use Rattle.fz_syntax.specs.Trees.{expression_of}
use Rattle.fz_parse.specs.Steps.{Read}
use Rattle.fz_grammar.specs.Grammar.{Rule}
use Rattle.fz_parse.proofs.Follows.{reads_by, first, later, ended}
use Rattle.fz_parse.proofs.Lists.{GoesOn, goes_first, goes_next, stops_first, stops_comma, stops_next, reads_end, all_expressions, first_pushed, pushed}
use Rattle.fz_parse.proofs.constraint.expressions.Goals as goal

pub returns-then-is-clause-taken : goal.returns-then-is-clause-taken
returns-then-is-clause-taken c = λ l low.
    let old = c.args.lexer.now.tokens in
    subst (λ (v : List trees.Expression). Read l (Rule (Listed Expressions) ∷ []) (v, tt) old old) (sym (ap (map expression_of) c.new-found.ensures.items))
    (reads_by (first (rules (Listed Expressions)) (head flatzinc old) c.is.ensures.found c.if-is.true) ended)

pub returns-in_err-expression-clause-taken : goal.returns-in_err-expression-clause-taken
returns-in_err-expression-clause-taken c =
    let p = err_from_is_err_and c.from_residual-in_err-expression.result c.from_residual-in_err-expression.ensures.1 in
    rw (p.1, p.2) (λ l low. stops_first Expressions (later (rules (Listed Expressions)) (head flatzinc c.args.lexer.now.tokens) c.is.ensures.found c.if-is.false) (c.in_err-expression.ensures.taken l low))

pub expressions-init : goal.expressions-init
expressions-init c = (
  omega (arith, c.in_ok-expression.ensures.forward),
  λ l low.
      subst (λ (v : List trees.Expression). GoesOn Expressions l (Listed Expressions) c.args.lexer.now.tokens c.expression.new.lexer.tokens (λ w. w) v)
      (first_pushed expression_of c.push.new.self.items c.reserve_exact.new.self.items c.in_ok-expression.field-0 (c.reserve_exact.ensures.items ∙ c.new-found.ensures.items) c.in_ok-push.ensures.items)
      (goes_first Expressions (later (rules (Listed Expressions)) (head flatzinc c.args.lexer.now.tokens) c.is.ensures.found c.if-is.false) (c.in_ok-expression.ensures.taken l low)),
  c.in_ok-expression.ensures.same,
)

pub returns-in_err-take-clause-taken : goal.returns-in_err-take-clause-taken
returns-in_err-take-clause-taken c =
    let p = err_from_is_err_and c.from_residual-in_err-take.result c.from_residual-in_err-take.ensures.1 in
    rw (p.1, p.2) (λ l low. stops_comma Expressions (c.expressions.invariant.1 l low) c.is-in-expressions.ensures.found c.expressions-test.true (c.in_err-take.ensures.taken l))

pub returns-in_err-expression-2-clause-taken : goal.returns-in_err-expression-2-clause-taken
returns-in_err-expression-2-clause-taken c =
    let p = err_from_is_err_and c.from_residual-in_err-expression-2.result c.from_residual-in_err-expression-2.ensures.1 in
    rw (p.1, p.2) (λ l low. stops_next Expressions (c.expressions.invariant.1 l low) c.is-in-expressions.ensures.found c.expressions-test.true (c.in_ok-take.ensures.taken l refl) (c.in_err-expression-2.ensures.taken l low))

pub expressions-preserved : goal.expressions-preserved
expressions-preserved c = (
  omega (arith, c.expressions.invariant.0, c.in_ok-take.ensures.forward, c.in_ok-expression-2.ensures.forward),
  λ l low.
      subst (λ (v : List trees.Expression). GoesOn Expressions l (Listed Expressions) c.args.lexer.now.tokens c.expression-in-expressions.new.lexer.tokens (λ w. w) v)
      (pushed expression_of c.push-in-expressions.new.self.items c.expressions.found.items c.in_ok-expression-2.field-0 c.in_ok-push-2.ensures.items)
      (goes_next Expressions (c.expressions.invariant.1 l low) c.is-in-expressions.ensures.found c.expressions-test.true (c.in_ok-take.ensures.taken l refl) (c.in_ok-expression-2.ensures.taken l low)),
  c.in_ok-expression-2.ensures.same ∙ c.in_ok-take.ensures.same ∙ c.expressions.invariant.2,
)

pub returns-clause-taken : goal.returns-clause-taken
returns-clause-taken c = λ l low.
    subst (λ (v : List trees.Expression). Read l (Rule (Listed Expressions) ∷ []) (v, tt) c.args.lexer.now.tokens c.expressions.lexer.tokens) (all_expressions (map expression_of c.expressions.found.items))
    (reads_end Expressions (c.expressions.invariant.1 l low) c.is-in-expressions.ensures.found c.expressions-test.false)
