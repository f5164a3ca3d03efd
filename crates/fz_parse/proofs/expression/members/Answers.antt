use Rattle.std.proofs.Common.{List, [], ◌∷◌, map, refl, ap, sym, subst, arith, ◌∙◌}
use Rattle.std.proofs.lemmas.Result.{err_from_is_err_and}
use Rattle.fz_language.specs.Trees as trees
use Rattle.fz_language.specs.Grammar.{flatzinc, rules, Members, Listed}
use Rattle.fz_grammar.specs.Reading.{head}
use Rattle.fz_syntax.specs.Trees.{number_of}
use Rattle.fz_parse.specs.Steps.{Read}
use Rattle.fz_grammar.specs.Grammar.{Rule}
use Rattle.fz_parse.proofs.Follows.{reads_by, first, later, ended}
use Rattle.fz_parse.proofs.Lists.{GoesOn, goes_first, goes_next, stops_first, stops_comma, stops_next, reads_end, all_members, first_pushed, pushed}
use Rattle.fz_parse.proofs.expression.members.Goals as goal

pub returns-then-is-clause-taken : goal.returns-then-is-clause-taken
returns-then-is-clause-taken c = λ l.
    let old = c.args.lexer.now.tokens in
    subst (λ (v : List trees.Number). Read l (Rule (Listed Members) ∷ []) (v, tt) old old) (sym (ap (map number_of) c.new-found.ensures.items))
    (reads_by (first (rules (Listed Members)) (head flatzinc old) c.is.ensures.found c.if-is.true) ended)

pub returns-in_err-number-clause-taken : goal.returns-in_err-number-clause-taken
returns-in_err-number-clause-taken c =
    let p = err_from_is_err_and c.from_residual.result c.from_residual.ensures.1 in
    rw (p.1, p.2) (λ l. stops_first Members (later (rules (Listed Members)) (head flatzinc c.args.lexer.now.tokens) c.is.ensures.found c.if-is.false) (c.in_err-number.ensures.taken l))

pub members-init : goal.members-init
members-init c = (
  omega (arith, c.in_ok-number.ensures.forward),
  λ l.
      subst (λ (v : List trees.Number). GoesOn Members l (Listed Members) c.args.lexer.now.tokens c.number.new.lexer.tokens (λ w. w) v)
      (first_pushed number_of c.push.new.self.items c.new-found.result.items c.in_ok-number.field-0 c.new-found.ensures.items c.in_ok-push.ensures.items)
      (goes_first Members (later (rules (Listed Members)) (head flatzinc c.args.lexer.now.tokens) c.is.ensures.found c.if-is.false) (c.in_ok-number.ensures.taken l)),
  c.in_ok-number.ensures.same,
)

pub returns-in_err-take-clause-taken : goal.returns-in_err-take-clause-taken
returns-in_err-take-clause-taken c =
    let p = err_from_is_err_and c.from_residual-in_err-take.result c.from_residual-in_err-take.ensures.1 in
    rw (p.1, p.2) (λ l. stops_comma Members (c.members.invariant.1 l) c.is-in-members.ensures.found c.members-test.true (c.in_err-take.ensures.taken l))

pub returns-in_err-number-2-clause-taken : goal.returns-in_err-number-2-clause-taken
returns-in_err-number-2-clause-taken c =
    let p = err_from_is_err_and c.from_residual-in_err-number-2.result c.from_residual-in_err-number-2.ensures.1 in
    rw (p.1, p.2) (λ l. stops_next Members (c.members.invariant.1 l) c.is-in-members.ensures.found c.members-test.true (c.in_ok-take.ensures.taken l refl) (c.in_err-number-2.ensures.taken l))

pub members-preserved : goal.members-preserved
members-preserved c = (
  omega (arith, c.members.invariant.0, c.in_ok-take.ensures.forward, c.in_ok-number-2.ensures.forward),
  λ l.
      subst (λ (v : List trees.Number). GoesOn Members l (Listed Members) c.args.lexer.now.tokens c.number-in-members.new.lexer.tokens (λ w. w) v)
      (pushed number_of c.push-in-members.new.self.items c.members.found.items c.in_ok-number-2.field-0 c.in_ok-push-2.ensures.items)
      (goes_next Members (c.members.invariant.1 l) c.is-in-members.ensures.found c.members-test.true (c.in_ok-take.ensures.taken l refl) (c.in_ok-number-2.ensures.taken l)),
  c.in_ok-number-2.ensures.same ∙ c.in_ok-take.ensures.same ∙ c.members.invariant.2,
)

pub returns-clause-taken : goal.returns-clause-taken
returns-clause-taken c = λ l.
    subst (λ (v : List trees.Number). Read l (Rule (Listed Members) ∷ []) (v, tt) c.args.lexer.now.tokens c.members.lexer.tokens) (all_members (map number_of c.members.found.items))
    (reads_end Members (c.members.invariant.1 l) c.is-in-members.ensures.found c.members-test.false)
