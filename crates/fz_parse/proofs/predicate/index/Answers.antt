use Rattle.std.proofs.Common.{refl, ◌∙◌, arith}
use Rattle.std.proofs.lemmas.Result.{err_from_is_err_and}
use Rattle.fz_language.specs.Grammar as grammar
use Rattle.fz_grammar.specs.Reading.{head}
use Rattle.fz_parse.proofs.Follows.{reads_by, halts_by, first, later, here, leaf_then, leaf_behind, ended}
use Rattle.fz_parse.proofs.predicate.index.Goals as goal

pub returns-in_err-take-clause-taken : goal.returns-in_err-take-clause-taken
returns-in_err-take-clause-taken c =
    let h = head grammar.flatzinc c.args.lexer.now.tokens in
    let p = err_from_is_err_and c.from_residual.result c.from_residual.ensures.1 in
    rw (p.1, p.2) (λ l. halts_by {n = grammar.Index} (first (grammar.rules grammar.Index) h c.is.ensures.found c.if-is.true) (here (c.in_err-take.ensures.taken l)))

pub returns-in_err-take-clause-cause : goal.returns-in_err-take-clause-cause
returns-in_err-take-clause-cause c =
    let p = err_from_is_err_and c.from_residual.result c.from_residual.ensures.1 in
    rw (p.1, p.2) c.in_err-take.ensures.cause

pub returns-then-is-clause-taken : goal.returns-then-is-clause-taken
returns-then-is-clause-taken c =
    let h = head grammar.flatzinc c.args.lexer.now.tokens in
    λ l. reads_by {n = grammar.Index} (first (grammar.rules grammar.Index) h c.is.ensures.found c.if-is.true) (leaf_then (c.in_ok-take.ensures.taken l refl) ended)

pub returns-in_err-low-clause-taken : goal.returns-in_err-low-clause-taken
returns-in_err-low-clause-taken c =
    let h = head grammar.flatzinc c.args.lexer.now.tokens in
    let p = err_from_is_err_and c.from_residual-in_err-low.result c.from_residual-in_err-low.ensures.1 in
    rw (p.1, p.2) (λ l. halts_by {n = grammar.Index} (later (grammar.rules grammar.Index) h c.is.ensures.found c.if-is.false) (here (c.in_err-low.ensures.taken l)))

pub returns-in_err-low-clause-cause : goal.returns-in_err-low-clause-cause
returns-in_err-low-clause-cause c =
    let p = err_from_is_err_and c.from_residual-in_err-low.result c.from_residual-in_err-low.ensures.1 in
    rw (p.1, p.2) c.in_err-low.ensures.cause

pub returns-in_err-take-2-clause-taken : goal.returns-in_err-take-2-clause-taken
returns-in_err-take-2-clause-taken c =
    let h = head grammar.flatzinc c.args.lexer.now.tokens in
    let p = err_from_is_err_and c.from_residual-in_err-take-2.result c.from_residual-in_err-take-2.ensures.1 in
    rw (p.1, p.2) (λ l. halts_by {n = grammar.Index} (later (grammar.rules grammar.Index) h c.is.ensures.found c.if-is.false) (leaf_behind (c.in_ok-low.ensures.taken l) (here (c.in_err-take-2.ensures.taken l))))

pub returns-in_err-take-2-clause-cause : goal.returns-in_err-take-2-clause-cause
returns-in_err-take-2-clause-cause c =
    let p = err_from_is_err_and c.from_residual-in_err-take-2.result c.from_residual-in_err-take-2.ensures.1 in
    rw (p.1, p.2) c.in_err-take-2.ensures.cause

pub returns-in_err-high-clause-taken : goal.returns-in_err-high-clause-taken
returns-in_err-high-clause-taken c =
    let h = head grammar.flatzinc c.args.lexer.now.tokens in
    let p = err_from_is_err_and c.from_residual-in_err-high.result c.from_residual-in_err-high.ensures.1 in
    rw (p.1, p.2) (λ l. halts_by {n = grammar.Index} (later (grammar.rules grammar.Index) h c.is.ensures.found c.if-is.false) (leaf_behind (c.in_ok-low.ensures.taken l) (leaf_behind (c.in_ok-take-2.ensures.taken l refl) (here (c.in_err-high.ensures.taken l)))))

pub returns-in_err-high-clause-cause : goal.returns-in_err-high-clause-cause
returns-in_err-high-clause-cause c =
    let p = err_from_is_err_and c.from_residual-in_err-high.result c.from_residual-in_err-high.ensures.1 in
    rw (p.1, p.2) c.in_err-high.ensures.cause

pub returns-clause-taken : goal.returns-clause-taken
returns-clause-taken c =
    let h = head grammar.flatzinc c.args.lexer.now.tokens in
    λ l. reads_by {n = grammar.Index} (later (grammar.rules grammar.Index) h c.is.ensures.found c.if-is.false) (leaf_then (c.in_ok-low.ensures.taken l) (leaf_then (c.in_ok-take-2.ensures.taken l refl) (leaf_then (c.in_ok-high.ensures.taken l) ended)))

pub returns-in_err-take-clause-same : goal.returns-in_err-take-clause-same
returns-in_err-take-clause-same c =
    c.take.ensures.same

pub returns-then-is-clause-forward : goal.returns-then-is-clause-forward
returns-then-is-clause-forward c =
    c.in_ok-take.ensures.forward

pub returns-then-is-clause-same : goal.returns-then-is-clause-same
returns-then-is-clause-same c =
    c.take.ensures.same

pub returns-in_err-low-clause-same : goal.returns-in_err-low-clause-same
returns-in_err-low-clause-same c =
    c.integer.ensures.same

pub returns-in_err-take-2-clause-same : goal.returns-in_err-take-2-clause-same
returns-in_err-take-2-clause-same c =
    c.in_err-take-2.ensures.same ∙ c.integer.ensures.same

pub returns-in_err-high-clause-same : goal.returns-in_err-high-clause-same
returns-in_err-high-clause-same c =
    c.in_err-high.ensures.same ∙ c.in_ok-take-2.ensures.same ∙ c.integer.ensures.same

pub returns-clause-forward : goal.returns-clause-forward
returns-clause-forward c =
    omega (arith, c.in_ok-low.ensures.forward, c.in_ok-take-2.ensures.forward, c.in_ok-high.ensures.forward)

pub returns-clause-same : goal.returns-clause-same
returns-clause-same c =
    c.in_ok-high.ensures.same ∙ c.in_ok-take-2.ensures.same ∙ c.integer.ensures.same
