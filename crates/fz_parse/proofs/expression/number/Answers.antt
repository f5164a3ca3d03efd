use Rattle.std.proofs.Common.{refl}
use Rattle.std.proofs.lemmas.Result.{err_from_is_err_and}
use Rattle.fz_language.specs.Grammar as grammar
use Rattle.fz_grammar.specs.Reading.{head}
use Rattle.fz_parse.proofs.Follows.{reads_rule, halts_rule_at, first, later, here, leaf_then, ended}
use Rattle.fz_parse.proofs.expression.number.Goals as goal

pub returns-in_err-at-clause-taken : goal.returns-in_err-at-clause-taken
returns-in_err-at-clause-taken c =
    let h = head grammar.flatzinc c.args.lexer.now.tokens in
    let p = err_from_is_err_and c.from_residual.result c.from_residual.ensures.1 in
    rw (p.1, p.2) (λ l. halts_rule_at grammar.OneNumber 3 (first (grammar.rules grammar.OneNumber) h c.is.ensures.found c.if-is.true) (here (c.in_err-at.ensures.taken l)))

pub returns-in_err-at-clause-cause : goal.returns-in_err-at-clause-cause
returns-in_err-at-clause-cause c =
    let p = err_from_is_err_and c.from_residual.result c.from_residual.ensures.1 in
    rw (p.1, p.2) c.in_err-at.ensures.cause

pub returns-then-is-clause-taken : goal.returns-then-is-clause-taken
returns-then-is-clause-taken c =
    let h = head grammar.flatzinc c.args.lexer.now.tokens in
    λ l. reads_rule grammar.OneNumber 3 (first (grammar.rules grammar.OneNumber) h c.is.ensures.found c.if-is.true) (leaf_then (c.in_ok-at.ensures.taken l refl) ended)

pub returns-in_err-integer-clause-taken : goal.returns-in_err-integer-clause-taken
returns-in_err-integer-clause-taken c =
    let h = head grammar.flatzinc c.args.lexer.now.tokens in
    let p = err_from_is_err_and c.from_residual-in_err-integer.result c.from_residual-in_err-integer.ensures.1 in
    rw (p.1, p.2) (λ l. halts_rule_at grammar.OneNumber 2 (later (grammar.rules grammar.OneNumber) h c.is.ensures.found c.if-is.false) (here (c.in_err-integer.ensures.taken l)))

pub returns-in_err-integer-clause-cause : goal.returns-in_err-integer-clause-cause
returns-in_err-integer-clause-cause c =
    let p = err_from_is_err_and c.from_residual-in_err-integer.result c.from_residual-in_err-integer.ensures.1 in
    rw (p.1, p.2) c.in_err-integer.ensures.cause

pub returns-clause-taken : goal.returns-clause-taken
returns-clause-taken c =
    let h = head grammar.flatzinc c.args.lexer.now.tokens in
    λ l. reads_rule grammar.OneNumber 2 (later (grammar.rules grammar.OneNumber) h c.is.ensures.found c.if-is.false) (leaf_then (c.in_ok-integer.ensures.taken l) ended)
