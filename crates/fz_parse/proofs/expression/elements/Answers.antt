use Rattle.std.proofs.Common.{List, [], ◌∷◌, map, refl, ap, sym, subst, arith, ◌∙◌}
use Rattle.std.proofs.lemmas.Result.{err_from_is_err_and}
use Rattle.fz_language.specs.Trees as trees
use Rattle.fz_language.specs.Grammar.{flatzinc, rules, Elements, Listed}
use Rattle.fz_grammar.specs.Reading.{head}
use Rattle.fz_syntax.specs.Trees.{integer_basic_of, elements_of}
use Rattle.fz_parse.specs.Steps.{Read}
use Rattle.fz_grammar.specs.Grammar.{Rule}
use Rattle.fz_parse.proofs.Follows.{reads_by, first, later, ended}
use Rattle.fz_parse.proofs.Lists.{GoesOn, goes_first, goes_next, stops_first, stops_comma, stops_next, reads_end, all_elements}
use Rattle.fz_parse.proofs.expression.elements.Goals as goal

pub returns-then-is-clause-taken : goal.returns-then-is-clause-taken
returns-then-is-clause-taken c = λ l.
    let old = c.args.lexer.now.tokens in
    subst (λ (v : List trees.Basic). Read l (Rule (Listed Elements) ∷ []) (v, tt) old old) (sym (ap (map integer_basic_of) c.new.ensures.items))
    (reads_by (first (rules (Listed Elements)) (head flatzinc old) c.is.ensures.found c.if-is.true) ended)

pub returns-in_err-first-clause-taken : goal.returns-in_err-first-clause-taken
returns-in_err-first-clause-taken c =
    let p = err_from_is_err_and c.from_residual.result c.from_residual.ensures.1 in
    rw (p.1, p.2) (λ l. stops_first Elements (later (rules (Listed Elements)) (head flatzinc c.args.lexer.now.tokens) c.is.ensures.found c.if-is.false) (c.in_err-first.ensures.taken l))

pub elements-init : goal.elements-init
elements-init c = (
  omega (arith, c.in_ok-first.ensures.forward),
  λ l.
      subst (λ (v : List trees.Basic). GoesOn Elements l (Listed Elements) c.args.lexer.now.tokens c.basic.new.lexer.tokens (λ w. w) v) (sym c.in_ok-found.ensures)
      (goes_first Elements (later (rules (Listed Elements)) (head flatzinc c.args.lexer.now.tokens) c.is.ensures.found c.if-is.false) (c.in_ok-first.ensures.taken l)),
  c.in_ok-first.ensures.same,
)

pub returns-in_err-take-clause-taken : goal.returns-in_err-take-clause-taken
returns-in_err-take-clause-taken c =
    let p = err_from_is_err_and c.from_residual-in_err-take.result c.from_residual-in_err-take.ensures.1 in
    rw (p.1, p.2) (λ l. stops_comma Elements (c.elements.invariant.1 l) c.is-in-elements.ensures.found c.elements-test.true (c.in_err-take.ensures.taken l))

pub returns-in_err-next-clause-taken : goal.returns-in_err-next-clause-taken
returns-in_err-next-clause-taken c =
    let p = err_from_is_err_and c.from_residual-in_err-next.result c.from_residual-in_err-next.ensures.1 in
    rw (p.1, p.2) (λ l. stops_next Elements (c.elements.invariant.1 l) c.is-in-elements.ensures.found c.elements-test.true (c.in_ok-take.ensures.taken l refl) (c.in_err-next.ensures.taken l))

pub elements-preserved : goal.elements-preserved
elements-preserved c = (
  omega (arith, c.elements.invariant.0, c.in_ok-take.ensures.forward, c.in_ok-next.ensures.forward),
  λ l.
      subst (λ (v : List trees.Basic). GoesOn Elements l (Listed Elements) c.args.lexer.now.tokens c.basic-in-elements.new.lexer.tokens (λ w. w) v) (sym c.in_ok-push.ensures)
      (goes_next Elements (c.elements.invariant.1 l) c.is-in-elements.ensures.found c.elements-test.true (c.in_ok-take.ensures.taken l refl) (c.in_ok-next.ensures.taken l)),
  c.in_ok-next.ensures.same ∙ c.in_ok-take.ensures.same ∙ c.elements.invariant.2,
)

pub returns-clause-taken : goal.returns-clause-taken
returns-clause-taken c = λ l.
    subst (λ (v : List trees.Basic). Read l (Rule (Listed Elements) ∷ []) (v, tt) c.args.lexer.now.tokens c.elements.lexer.tokens) (all_elements (elements_of c.elements.found))
    (reads_end Elements (c.elements.invariant.1 l) c.is-in-elements.ensures.found c.elements-test.false)
