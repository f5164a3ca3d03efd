use Rattle.std.proofs.Common.{refl, ◌∙◌}
use Rattle.std.proofs.lemmas.Result.{err_from_is_err_and}
use Rattle.fz_language.specs.Grammar as grammar
use Rattle.fz_grammar.specs.Reading.{head}
use Rattle.fz_parse.proofs.Follows.{reads_by, halts_by, first, later, tail, here, leaf_then, rule_then, leaf_behind, ended}
use Rattle.fz_parse.proofs.program.method.Goals as goal

pub returns-in_err-at-clause-taken : goal.returns-in_err-at-clause-taken
returns-in_err-at-clause-taken c =
    let h = head grammar.flatzinc c.args.lexer.now.tokens in
    let p = err_from_is_err_and c.from_residual.result c.from_residual.ensures.1 in
    rw (p.1, p.2) (λ l. halts_by {n = grammar.Method} (first (grammar.rules grammar.Method) h c.is.ensures.found c.if-is.true) (here (c.in_err-at.ensures.taken l)))

pub returns-in_err-objective-clause-taken : goal.returns-in_err-objective-clause-taken
returns-in_err-objective-clause-taken c =
    let h = head grammar.flatzinc c.args.lexer.now.tokens in
    let p = err_from_is_err_and c.from_residual-in_err-objective.result c.from_residual-in_err-objective.ensures.1 in
    rw (p.1, p.2) (λ l. halts_by {n = grammar.Method} (first (grammar.rules grammar.Method) h c.is.ensures.found c.if-is.true) (leaf_behind (c.in_ok-at.ensures.taken l refl) (here (c.in_err-objective.ensures.taken l))))

pub returns-then-is-clause-taken : goal.returns-then-is-clause-taken
returns-then-is-clause-taken c =
    let h = head grammar.flatzinc c.args.lexer.now.tokens in
    λ l. reads_by {n = grammar.Method} (first (grammar.rules grammar.Method) h c.is.ensures.found c.if-is.true) (leaf_then (c.in_ok-at.ensures.taken l refl) (rule_then (c.in_ok-objective.ensures.taken l) ended))

pub returns-in_err-at-2-clause-taken : goal.returns-in_err-at-2-clause-taken
returns-in_err-at-2-clause-taken c =
    let h = head grammar.flatzinc c.args.lexer.now.tokens in
    let p = err_from_is_err_and c.from_residual-in_err-at-2.result c.from_residual-in_err-at-2.ensures.1 in
    rw (p.1, p.2) (λ l. halts_by {n = grammar.Method} (later (grammar.rules grammar.Method) h c.is.ensures.found c.if-is.false ∙ first (tail (grammar.rules grammar.Method)) h c.is-2.ensures.found c.if-is-2.true) (here (c.in_err-at-2.ensures.taken l)))

pub returns-in_err-objective-2-clause-taken : goal.returns-in_err-objective-2-clause-taken
returns-in_err-objective-2-clause-taken c =
    let h = head grammar.flatzinc c.args.lexer.now.tokens in
    let p = err_from_is_err_and c.from_residual-in_err-objective-2.result c.from_residual-in_err-objective-2.ensures.1 in
    rw (p.1, p.2) (λ l. halts_by {n = grammar.Method} (later (grammar.rules grammar.Method) h c.is.ensures.found c.if-is.false ∙ first (tail (grammar.rules grammar.Method)) h c.is-2.ensures.found c.if-is-2.true) (leaf_behind (c.in_ok-at-2.ensures.taken l refl) (here (c.in_err-objective-2.ensures.taken l))))

pub returns-then-is-2-clause-taken : goal.returns-then-is-2-clause-taken
returns-then-is-2-clause-taken c =
    let h = head grammar.flatzinc c.args.lexer.now.tokens in
    λ l. reads_by {n = grammar.Method} (later (grammar.rules grammar.Method) h c.is.ensures.found c.if-is.false ∙ first (tail (grammar.rules grammar.Method)) h c.is-2.ensures.found c.if-is-2.true) (leaf_then (c.in_ok-at-2.ensures.taken l refl) (rule_then (c.in_ok-objective-2.ensures.taken l) ended))

pub returns-in_err-at-3-clause-taken : goal.returns-in_err-at-3-clause-taken
returns-in_err-at-3-clause-taken c =
    let h = head grammar.flatzinc c.args.lexer.now.tokens in
    let p = err_from_is_err_and c.from_residual-in_err-at-3.result c.from_residual-in_err-at-3.ensures.1 in
    rw (p.1, p.2) (λ l. halts_by {n = grammar.Method} (later (grammar.rules grammar.Method) h c.is.ensures.found c.if-is.false ∙ later (tail (grammar.rules grammar.Method)) h c.is-2.ensures.found c.if-is-2.false) (here (c.in_err-at-3.ensures.taken l)))

pub returns-clause-taken : goal.returns-clause-taken
returns-clause-taken c =
    let h = head grammar.flatzinc c.args.lexer.now.tokens in
    λ l. reads_by {n = grammar.Method} (later (grammar.rules grammar.Method) h c.is.ensures.found c.if-is.false ∙ later (tail (grammar.rules grammar.Method)) h c.is-2.ensures.found c.if-is-2.false) (leaf_then (c.in_ok-at-3.ensures.taken l refl) ended)
