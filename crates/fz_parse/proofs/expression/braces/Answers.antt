use Rattle.std.proofs.Common.{refl}
use Rattle.std.proofs.lemmas.Result.{err_from_is_err_and}
use Rattle.fz_language.specs.Grammar as grammar
use Rattle.fz_grammar.specs.Reading.{head}
use Rattle.fz_parse.proofs.Follows.{reads_by, halts_by, here, leaf_then, rule_then, leaf_behind, rule_behind, ended}
use Rattle.fz_parse.proofs.expression.braces.Goals as goal

pub returns-in_err-at-clause-taken : goal.returns-in_err-at-clause-taken
returns-in_err-at-clause-taken c =
    let h = head grammar.flatzinc c.args.lexer.now.tokens in
    let p = err_from_is_err_and c.from_residual.result c.from_residual.ensures.1 in
    rw (p.1, p.2) (λ l. halts_by {n = grammar.Braces} refl (here (c.in_err-at.ensures.taken l)))

pub returns-in_err-members-clause-taken : goal.returns-in_err-members-clause-taken
returns-in_err-members-clause-taken c =
    let h = head grammar.flatzinc c.args.lexer.now.tokens in
    let p = err_from_is_err_and c.from_residual-in_err-members.result c.from_residual-in_err-members.ensures.1 in
    rw (p.1, p.2) (λ l. halts_by {n = grammar.Braces} refl (leaf_behind (c.in_ok-at.ensures.taken l refl) (here (c.in_err-members.ensures.taken l))))

pub returns-in_err-take-clause-taken : goal.returns-in_err-take-clause-taken
returns-in_err-take-clause-taken c =
    let h = head grammar.flatzinc c.args.lexer.now.tokens in
    let p = err_from_is_err_and c.from_residual-in_err-take.result c.from_residual-in_err-take.ensures.1 in
    rw (p.1, p.2) (λ l. halts_by {n = grammar.Braces} refl (leaf_behind (c.in_ok-at.ensures.taken l refl) (rule_behind (c.in_ok-members.ensures.taken l) (here (c.in_err-take.ensures.taken l)))))

pub returns-clause-taken : goal.returns-clause-taken
returns-clause-taken c =
    let h = head grammar.flatzinc c.args.lexer.now.tokens in
    λ l. reads_by {n = grammar.Braces} refl (leaf_then (c.in_ok-at.ensures.taken l refl) (rule_then (c.in_ok-members.ensures.taken l) (leaf_then (c.in_ok-take.ensures.taken l refl) ended)))
