use Rattle.std.proofs.Common.{◌∷◌, [], subst, sym}
use Rattle.std.proofs.lemmas.Result.{err_from_is_err_and}
use Rattle.fz_language.specs.Grammar as grammar
use Rattle.fz_language.specs.Trees as trees
use Rattle.fz_grammar.specs.Reading.{head}
use Rattle.fz_grammar.specs.Grammar.{Rule}
use Rattle.fz_parse.specs.Steps.{Read}
use Rattle.fz_parse.proofs.Follows.{reads_by, halts_by, first, later, here, rule_then, ended}
use Rattle.fz_parse.proofs.expression.expression.Goals as goal

pub returns-in_err-list-clause-taken : goal.returns-in_err-list-clause-taken
returns-in_err-list-clause-taken c =
    let h = head grammar.flatzinc c.args.lexer.now.tokens in
    let p = err_from_is_err_and c.from_residual.result c.from_residual.ensures.1 in
    rw (p.1, p.2) (λ l low. halts_by {n = grammar.Expression} (first (grammar.rules grammar.Expression) h c.is.ensures.found c.if-is.true) (here (c.in_err-list.ensures.taken l low)))

pub returns-then-is-clause-taken : goal.returns-then-is-clause-taken
returns-then-is-clause-taken c =
    let h = head grammar.flatzinc c.args.lexer.now.tokens in
    λ l low. subst (λ (v : trees.Expression). Read l (Rule grammar.Expression ∷ []) (v, tt) c.args.lexer.now.tokens c.list_literal.new.lexer.tokens) (sym c.listed.ensures) (reads_by {n = grammar.Expression} (first (grammar.rules grammar.Expression) h c.is.ensures.found c.if-is.true) (rule_then (c.in_ok-list.ensures.taken l low) ended))

pub returns-in_err-basic-clause-taken : goal.returns-in_err-basic-clause-taken
returns-in_err-basic-clause-taken c =
    let h = head grammar.flatzinc c.args.lexer.now.tokens in
    let p = err_from_is_err_and c.from_residual-in_err-basic.result c.from_residual-in_err-basic.ensures.1 in
    rw (p.1, p.2) (λ l low. halts_by {n = grammar.Expression} (later (grammar.rules grammar.Expression) h c.is.ensures.found c.if-is.false) (here (c.in_err-basic.ensures.taken l)))

pub returns-clause-taken : goal.returns-clause-taken
returns-clause-taken c =
    let h = head grammar.flatzinc c.args.lexer.now.tokens in
    λ l low. reads_by {n = grammar.Expression} (later (grammar.rules grammar.Expression) h c.is.ensures.found c.if-is.false) (rule_then (c.in_ok-basic.ensures.taken l) ended)
