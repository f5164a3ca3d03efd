use Rattle.std.proofs.Common.{refl}
use Rattle.std.proofs.lemmas.Result.{err_from_is_err_and}
use Rattle.fz_language.specs.Grammar as grammar
use Rattle.fz_grammar.specs.Reading.{head}
use Rattle.fz_parse.proofs.Follows.{reads_by, halts_by, here, leaf_then, rule_then, leaf_behind, rule_behind, ended}
use Rattle.fz_parse.proofs.predicate.parameter.Goals as goal

pub returns-in_err-indexes-clause-taken : goal.returns-in_err-indexes-clause-taken
returns-in_err-indexes-clause-taken c =
    let h = head grammar.flatzinc c.args.lexer.now.tokens in
    let p = err_from_is_err_and c.from_residual.result c.from_residual.ensures.1 in
    rw (p.1, p.2) (λ l low. halts_by {n = grammar.Parameter} refl (here (c.in_err-indexes.ensures.taken l low)))

pub returns-in_err-variable-clause-taken : goal.returns-in_err-variable-clause-taken
returns-in_err-variable-clause-taken c =
    let h = head grammar.flatzinc c.args.lexer.now.tokens in
    let p = err_from_is_err_and c.from_residual-in_err-variable.result c.from_residual-in_err-variable.ensures.1 in
    rw (p.1, p.2) (λ l low. halts_by {n = grammar.Parameter} refl (rule_behind (c.in_ok-indexes.ensures.taken l low) (here (c.in_err-variable.ensures.taken l))))

pub returns-in_err-value_type-clause-taken : goal.returns-in_err-value_type-clause-taken
returns-in_err-value_type-clause-taken c =
    let h = head grammar.flatzinc c.args.lexer.now.tokens in
    let p = err_from_is_err_and c.from_residual-in_err-value_type.result c.from_residual-in_err-value_type.ensures.1 in
    rw (p.1, p.2) (λ l low. halts_by {n = grammar.Parameter} refl (rule_behind (c.in_ok-indexes.ensures.taken l low) (rule_behind (c.in_ok-variable.ensures.taken l) (here (c.in_err-value_type.ensures.taken l)))))

pub returns-in_err-take-clause-taken : goal.returns-in_err-take-clause-taken
returns-in_err-take-clause-taken c =
    let h = head grammar.flatzinc c.args.lexer.now.tokens in
    let p = err_from_is_err_and c.from_residual-in_err-take.result c.from_residual-in_err-take.ensures.1 in
    rw (p.1, p.2) (λ l low. halts_by {n = grammar.Parameter} refl (rule_behind (c.in_ok-indexes.ensures.taken l low) (rule_behind (c.in_ok-variable.ensures.taken l) (rule_behind (c.in_ok-value_type.ensures.taken l) (here (c.in_err-take.ensures.taken l))))))

pub returns-in_err-name-clause-taken : goal.returns-in_err-name-clause-taken
returns-in_err-name-clause-taken c =
    let h = head grammar.flatzinc c.args.lexer.now.tokens in
    let p = err_from_is_err_and c.from_residual-in_err-name.result c.from_residual-in_err-name.ensures.1 in
    rw (p.1, p.2) (λ l low. halts_by {n = grammar.Parameter} refl (rule_behind (c.in_ok-indexes.ensures.taken l low) (rule_behind (c.in_ok-variable.ensures.taken l) (rule_behind (c.in_ok-value_type.ensures.taken l) (leaf_behind (c.in_ok-take.ensures.taken l refl) (here (c.in_err-name.ensures.taken l)))))))

pub returns-clause-taken : goal.returns-clause-taken
returns-clause-taken c =
    let h = head grammar.flatzinc c.args.lexer.now.tokens in
    λ l low. reads_by {n = grammar.Parameter} refl (rule_then (c.in_ok-indexes.ensures.taken l low) (rule_then (c.in_ok-variable.ensures.taken l) (rule_then (c.in_ok-value_type.ensures.taken l) (leaf_then (c.in_ok-take.ensures.taken l refl) (leaf_then (c.in_ok-name.ensures.taken l) ended)))))
