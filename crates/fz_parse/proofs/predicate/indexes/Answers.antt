use Rattle.std.proofs.Common.{refl, suc}
use Rattle.std.proofs.lemmas.Result.{err_from_is_err_and}
use Rattle.fz_language.specs.Grammar as grammar
use Rattle.fz_grammar.specs.Reading.{head}
use Rattle.fz_parse.proofs.Follows.{reads_by, halts_by, first, later, here, leaf_then, rule_then, leaf_behind, rule_behind, ended, opens_bracket}
use Rattle.fz_parse.proofs.predicate.indexes.Goals as goal

pub returns-then-not-is-clause-taken : goal.returns-then-not-is-clause-taken
returns-then-not-is-clause-taken c =
    let h = head grammar.flatzinc c.args.lexer.now.tokens in
    λ l low. reads_by {n = grammar.OfArray} (later (grammar.rules grammar.OfArray) h c.is.ensures.found c.if-not-is.true) ended

pub returns-in_err-take-clause-taken : goal.returns-in_err-take-clause-taken
returns-in_err-take-clause-taken c =
    let h = head grammar.flatzinc c.args.lexer.now.tokens in
    let p = err_from_is_err_and c.from_residual.result c.from_residual.ensures.1 in
    rw (p.1, p.2) (λ l low. halts_by {n = grammar.OfArray} (first (grammar.rules grammar.OfArray) h c.is.ensures.found c.if-not-is.false) (here (c.in_err-take.ensures.taken l)))

pub returns-in_err-take-2-clause-taken : goal.returns-in_err-take-2-clause-taken
returns-in_err-take-2-clause-taken c =
    let h = head grammar.flatzinc c.args.lexer.now.tokens in
    let p = err_from_is_err_and c.from_residual-in_err-take-2.result c.from_residual-in_err-take-2.ensures.1 in
    rw (p.1, p.2) (λ l low. halts_by {n = grammar.OfArray} (first (grammar.rules grammar.OfArray) h c.is.ensures.found c.if-not-is.false) (leaf_behind (c.in_ok-take.ensures.taken l refl) (here (c.in_err-take-2.ensures.taken l))))

pub returns-in_err-found-clause-taken : goal.returns-in_err-found-clause-taken
returns-in_err-found-clause-taken c =
    let h = head grammar.flatzinc c.args.lexer.now.tokens in
    let p = err_from_is_err_and c.from_residual-in_err-found.result c.from_residual-in_err-found.ensures.1 in
    rw (p.1, p.2) (λ l low. halts_by {n = grammar.OfArray} (first (grammar.rules grammar.OfArray) h c.is.ensures.found c.if-not-is.false) (leaf_behind (c.in_ok-take.ensures.taken l refl) (leaf_behind (c.in_ok-take-2.ensures.taken l (opens_bracket l low)) (here (c.in_err-found.ensures.taken (suc l))))))

pub returns-in_err-take-3-clause-taken : goal.returns-in_err-take-3-clause-taken
returns-in_err-take-3-clause-taken c =
    let h = head grammar.flatzinc c.args.lexer.now.tokens in
    let p = err_from_is_err_and c.from_residual-in_err-take-3.result c.from_residual-in_err-take-3.ensures.1 in
    rw (p.1, p.2) (λ l low. halts_by {n = grammar.OfArray} (first (grammar.rules grammar.OfArray) h c.is.ensures.found c.if-not-is.false) (leaf_behind (c.in_ok-take.ensures.taken l refl) (leaf_behind (c.in_ok-take-2.ensures.taken l (opens_bracket l low)) (rule_behind (c.in_ok-found.ensures.taken (suc l)) (here (c.in_err-take-3.ensures.taken (suc l)))))))

pub returns-in_err-take-4-clause-taken : goal.returns-in_err-take-4-clause-taken
returns-in_err-take-4-clause-taken c =
    let h = head grammar.flatzinc c.args.lexer.now.tokens in
    let p = err_from_is_err_and c.from_residual-in_err-take-4.result c.from_residual-in_err-take-4.ensures.1 in
    rw (p.1, p.2) (λ l low. halts_by {n = grammar.OfArray} (first (grammar.rules grammar.OfArray) h c.is.ensures.found c.if-not-is.false) (leaf_behind (c.in_ok-take.ensures.taken l refl) (leaf_behind (c.in_ok-take-2.ensures.taken l (opens_bracket l low)) (rule_behind (c.in_ok-found.ensures.taken (suc l)) (leaf_behind (c.in_ok-take-3.ensures.taken (suc l) refl) (here (c.in_err-take-4.ensures.taken l)))))))

pub returns-clause-taken : goal.returns-clause-taken
returns-clause-taken c =
    let h = head grammar.flatzinc c.args.lexer.now.tokens in
    λ l low. reads_by {n = grammar.OfArray} (first (grammar.rules grammar.OfArray) h c.is.ensures.found c.if-not-is.false) (leaf_then (c.in_ok-take.ensures.taken l refl) (leaf_then (c.in_ok-take-2.ensures.taken l (opens_bracket l low)) (rule_then (c.in_ok-found.ensures.taken (suc l)) (leaf_then (c.in_ok-take-3.ensures.taken (suc l) refl) (leaf_then (c.in_ok-take-4.ensures.taken l refl) ended)))))
