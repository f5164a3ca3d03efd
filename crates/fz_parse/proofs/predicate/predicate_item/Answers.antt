use Rattle.std.proofs.Common.{refl, arith}
use Rattle.std.proofs.lemmas.Result.{err_from_is_err_and}
use Rattle.fz_language.specs.Grammar as grammar
use Rattle.fz_grammar.specs.Reading.{head}
use Rattle.fz_parse.proofs.Follows.{reads_by, halts_by, here, leaf_then, rule_then, leaf_behind, rule_behind, ended}
use Rattle.fz_parse.proofs.predicate.predicate_item.Goals as goal

pub returns-in_err-take-clause-taken : goal.returns-in_err-take-clause-taken
returns-in_err-take-clause-taken c =
    let h = head grammar.flatzinc c.args.lexer.now.tokens in
    let p = err_from_is_err_and c.from_residual.result c.from_residual.ensures.1 in
    rw (p.1, p.2) (halts_by {n = grammar.PredicateItem} refl (here (c.in_err-take.ensures.taken 0)))

pub returns-in_err-name-clause-taken : goal.returns-in_err-name-clause-taken
returns-in_err-name-clause-taken c =
    let h = head grammar.flatzinc c.args.lexer.now.tokens in
    let p = err_from_is_err_and c.from_residual-in_err-name.result c.from_residual-in_err-name.ensures.1 in
    rw (p.1, p.2) (halts_by {n = grammar.PredicateItem} refl (leaf_behind (c.in_ok-take.ensures.taken 0 refl) (here (c.in_err-name.ensures.taken 0))))

pub returns-in_err-take-2-clause-taken : goal.returns-in_err-take-2-clause-taken
returns-in_err-take-2-clause-taken c =
    let h = head grammar.flatzinc c.args.lexer.now.tokens in
    let p = err_from_is_err_and c.from_residual-in_err-take-2.result c.from_residual-in_err-take-2.ensures.1 in
    rw (p.1, p.2) (halts_by {n = grammar.PredicateItem} refl (leaf_behind (c.in_ok-take.ensures.taken 0 refl) (leaf_behind (c.in_ok-name.ensures.taken 0) (here (c.in_err-take-2.ensures.taken 0)))))

pub returns-in_err-parameters-clause-taken : goal.returns-in_err-parameters-clause-taken
returns-in_err-parameters-clause-taken c =
    let h = head grammar.flatzinc c.args.lexer.now.tokens in
    let p = err_from_is_err_and c.from_residual-in_err-parameters.result c.from_residual-in_err-parameters.ensures.1 in
    rw (p.1, p.2) (halts_by {n = grammar.PredicateItem} refl (leaf_behind (c.in_ok-take.ensures.taken 0 refl) (leaf_behind (c.in_ok-name.ensures.taken 0) (leaf_behind (c.in_ok-take-2.ensures.taken 0 refl) (here (c.in_err-parameters.ensures.taken 1 (omega arith)))))))

pub returns-in_err-take-3-clause-taken : goal.returns-in_err-take-3-clause-taken
returns-in_err-take-3-clause-taken c =
    let h = head grammar.flatzinc c.args.lexer.now.tokens in
    let p = err_from_is_err_and c.from_residual-in_err-take-3.result c.from_residual-in_err-take-3.ensures.1 in
    rw (p.1, p.2) (halts_by {n = grammar.PredicateItem} refl (leaf_behind (c.in_ok-take.ensures.taken 0 refl) (leaf_behind (c.in_ok-name.ensures.taken 0) (leaf_behind (c.in_ok-take-2.ensures.taken 0 refl) (rule_behind (c.in_ok-parameters.ensures.taken 1 (omega arith)) (here (c.in_err-take-3.ensures.taken 1)))))))

pub returns-in_err-take-4-clause-taken : goal.returns-in_err-take-4-clause-taken
returns-in_err-take-4-clause-taken c =
    let h = head grammar.flatzinc c.args.lexer.now.tokens in
    let p = err_from_is_err_and c.from_residual-in_err-take-4.result c.from_residual-in_err-take-4.ensures.1 in
    rw (p.1, p.2) (halts_by {n = grammar.PredicateItem} refl (leaf_behind (c.in_ok-take.ensures.taken 0 refl) (leaf_behind (c.in_ok-name.ensures.taken 0) (leaf_behind (c.in_ok-take-2.ensures.taken 0 refl) (rule_behind (c.in_ok-parameters.ensures.taken 1 (omega arith)) (leaf_behind (c.in_ok-take-3.ensures.taken 1 refl) (here (c.in_err-take-4.ensures.taken 0))))))))

pub returns-clause-taken : goal.returns-clause-taken
returns-clause-taken c =
    let h = head grammar.flatzinc c.args.lexer.now.tokens in
    reads_by {n = grammar.PredicateItem} refl (leaf_then (c.in_ok-take.ensures.taken 0 refl) (leaf_then (c.in_ok-name.ensures.taken 0) (leaf_then (c.in_ok-take-2.ensures.taken 0 refl) (rule_then (c.in_ok-parameters.ensures.taken 1 (omega arith)) (leaf_then (c.in_ok-take-3.ensures.taken 1 refl) (leaf_then (c.in_ok-take-4.ensures.taken 0 refl) ended))))))
