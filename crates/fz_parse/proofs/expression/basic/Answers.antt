use Rattle.std.proofs.lemmas.Result.{err_from_is_err_and}
use Rattle.fz_language.specs.Grammar as grammar
use Rattle.fz_grammar.specs.Reading.{head}
use Rattle.fz_parse.proofs.Follows.{reads_by, halts_by, first, later, here, leaf_then, rule_then, ended}
use Rattle.fz_parse.proofs.expression.basic.Goals as goal

pub returns-in_err-name-clause-taken : goal.returns-in_err-name-clause-taken
returns-in_err-name-clause-taken c =
    let h = head grammar.flatzinc c.args.lexer.now.tokens in
    let p = err_from_is_err_and c.from_residual.result c.from_residual.ensures.1 in
    rw (p.1, p.2) (λ l. halts_by {n = grammar.Basic} (first (grammar.rules grammar.Basic) h c.is.ensures.found c.if-is.true) (here (c.in_err-name.ensures.taken l)))

pub returns-then-is-clause-taken : goal.returns-then-is-clause-taken
returns-then-is-clause-taken c =
    let h = head grammar.flatzinc c.args.lexer.now.tokens in
    λ l. reads_by {n = grammar.Basic} (first (grammar.rules grammar.Basic) h c.is.ensures.found c.if-is.true) (leaf_then (c.in_ok-name.ensures.taken l) ended)

pub returns-in_err-basic-clause-taken : goal.returns-in_err-basic-clause-taken
returns-in_err-basic-clause-taken c =
    let h = head grammar.flatzinc c.args.lexer.now.tokens in
    let p = err_from_is_err_and c.from_residual-in_err-basic.result c.from_residual-in_err-basic.ensures.1 in
    rw (p.1, p.2) (λ l. halts_by {n = grammar.Basic} (later (grammar.rules grammar.Basic) h c.is.ensures.found c.if-is.false) (here (c.in_err-basic.ensures.taken l)))

pub returns-clause-taken : goal.returns-clause-taken
returns-clause-taken c =
    let h = head grammar.flatzinc c.args.lexer.now.tokens in
    λ l. reads_by {n = grammar.Basic} (later (grammar.rules grammar.Basic) h c.is.ensures.found c.if-is.false) (rule_then (c.in_ok-basic.ensures.taken l) ended)
