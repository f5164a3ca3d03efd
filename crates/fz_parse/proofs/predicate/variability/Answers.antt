use Rattle.std.proofs.Common.{refl}
use Rattle.std.proofs.lemmas.Result.{err_from_is_err_and}
use Rattle.fz_language.specs.Grammar as grammar
use Rattle.fz_grammar.specs.Reading.{head}
use Rattle.fz_parse.proofs.Follows.{reads_by, halts_by, first, later, here, leaf_then, ended}
use Rattle.fz_parse.proofs.predicate.variability.Goals as goal

pub returns-then-not-is-clause-taken : goal.returns-then-not-is-clause-taken
returns-then-not-is-clause-taken c =
    let h = head grammar.flatzinc c.args.lexer.now.tokens in
    λ l. reads_by {n = grammar.Variability} (later (grammar.rules grammar.Variability) h c.is.ensures.found c.if-not-is.true) ended

pub returns-in_err-take-clause-taken : goal.returns-in_err-take-clause-taken
returns-in_err-take-clause-taken c =
    let h = head grammar.flatzinc c.args.lexer.now.tokens in
    let p = err_from_is_err_and c.from_residual.result c.from_residual.ensures.1 in
    rw (p.1, p.2) (λ l. halts_by {n = grammar.Variability} (first (grammar.rules grammar.Variability) h c.is.ensures.found c.if-not-is.false) (here (c.in_err-take.ensures.taken l)))

pub returns-in_err-take-clause-cause : goal.returns-in_err-take-clause-cause
returns-in_err-take-clause-cause c =
    let p = err_from_is_err_and c.from_residual.result c.from_residual.ensures.1 in
    rw (p.1, p.2) c.in_err-take.ensures.cause

pub returns-clause-taken : goal.returns-clause-taken
returns-clause-taken c =
    let h = head grammar.flatzinc c.args.lexer.now.tokens in
    λ l. reads_by {n = grammar.Variability} (first (grammar.rules grammar.Variability) h c.is.ensures.found c.if-not-is.false) (leaf_then (c.in_ok-take.ensures.taken l refl) ended)
