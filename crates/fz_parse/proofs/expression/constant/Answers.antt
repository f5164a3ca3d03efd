use Rattle.std.proofs.Common.{Option, refl, ◌∙◌, subst, sym, [], ◌∷◌}
use Rattle.std.proofs.lemmas.Result.{err_from_is_err_and}
use Rattle.fz_language.specs.Grammar as grammar
use Rattle.fz_language.specs.Trees as trees
use Rattle.fz_syntax.specs.declared.expression.Number.{Number}
use Rattle.fz_syntax.specs.declared.expression.SetLiteral.{SetLiteral}
use Rattle.fz_syntax.specs.Trees.{number_of, set_of}
use Rattle.fz_grammar.specs.Reading.{head}
use Rattle.fz_parse.specs.Steps.{Read, option_of}
use Rattle.fz_grammar.specs.Grammar.{Rule}
use Rattle.fz_parse.proofs.Follows.{reads_by, halts_by, first, later, tail, here, leaf_then, rule_then, rule_behind, ended}
use Rattle.fz_parse.proofs.expression.constant.Goals as goal

pub returns-in_err-at-clause-taken : goal.returns-in_err-at-clause-taken
returns-in_err-at-clause-taken c =
    let h = head grammar.flatzinc c.args.lexer.now.tokens in
    let p = err_from_is_err_and c.from_residual.result c.from_residual.ensures.1 in
    rw (p.1, p.2) (λ l. halts_by {n = grammar.Constant} (first (grammar.rules grammar.Constant) h c.is.ensures.found c.if-is.true) (here (c.in_err-at.ensures.taken l)))

pub returns-then-is-clause-taken : goal.returns-then-is-clause-taken
returns-then-is-clause-taken c =
    let h = head grammar.flatzinc c.args.lexer.now.tokens in
    λ l. reads_by {n = grammar.Constant} (first (grammar.rules grammar.Constant) h c.is.ensures.found c.if-is.true) (leaf_then (c.in_ok-at.ensures.taken l refl) ended)

pub returns-in_err-at-2-clause-taken : goal.returns-in_err-at-2-clause-taken
returns-in_err-at-2-clause-taken c =
    let h = head grammar.flatzinc c.args.lexer.now.tokens in
    let p = err_from_is_err_and c.from_residual-in_err-at-2.result c.from_residual-in_err-at-2.ensures.1 in
    rw (p.1, p.2) (λ l. halts_by {n = grammar.Constant} (later (grammar.rules grammar.Constant) h c.is.ensures.found c.if-is.false ∙ first (tail (grammar.rules grammar.Constant)) h c.is-2.ensures.found c.if-is-2.true) (here (c.in_err-at-2.ensures.taken l)))

pub returns-then-is-2-clause-taken : goal.returns-then-is-2-clause-taken
returns-then-is-2-clause-taken c =
    let h = head grammar.flatzinc c.args.lexer.now.tokens in
    λ l. reads_by {n = grammar.Constant} (later (grammar.rules grammar.Constant) h c.is.ensures.found c.if-is.false ∙ first (tail (grammar.rules grammar.Constant)) h c.is-2.ensures.found c.if-is-2.true) (leaf_then (c.in_ok-at-2.ensures.taken l refl) ended)

pub returns-in_err-set-clause-taken : goal.returns-in_err-set-clause-taken
returns-in_err-set-clause-taken c =
    let h = head grammar.flatzinc c.args.lexer.now.tokens in
    let p = err_from_is_err_and c.from_residual-in_err-set.result c.from_residual-in_err-set.ensures.1 in
    rw (p.1, p.2) (λ l. halts_by {n = grammar.Constant} (later (grammar.rules grammar.Constant) h c.is.ensures.found c.if-is.false ∙ later (tail (grammar.rules grammar.Constant)) h c.is-2.ensures.found c.if-is-2.false ∙ first (tail (tail (grammar.rules grammar.Constant))) h c.is-3.ensures.found c.if-is-3.true) (here (c.in_err-set.ensures.taken l)))

pub returns-then-is-3-clause-taken : goal.returns-then-is-3-clause-taken
returns-then-is-3-clause-taken c =
    let h = head grammar.flatzinc c.args.lexer.now.tokens in
    λ l. subst (λ (v : trees.Basic). Read l (Rule grammar.Constant ∷ []) (v, tt) c.args.lexer.now.tokens c.braces.new.lexer.tokens) (sym c.in_ok-found.ensures) (reads_by {n = grammar.Constant} (later (grammar.rules grammar.Constant) h c.is.ensures.found c.if-is.false ∙ later (tail (grammar.rules grammar.Constant)) h c.is-2.ensures.found c.if-is-2.false ∙ first (tail (tail (grammar.rules grammar.Constant))) h c.is-3.ensures.found c.if-is-3.true) (rule_then (c.in_ok-set.ensures.taken l) ended))

pub returns-in_err-low-clause-taken : goal.returns-in_err-low-clause-taken
returns-in_err-low-clause-taken c =
    let h = head grammar.flatzinc c.args.lexer.now.tokens in
    let p = err_from_is_err_and c.from_residual-in_err-low.result c.from_residual-in_err-low.ensures.1 in
    rw (p.1, p.2) (λ l. halts_by {n = grammar.Constant} (later (grammar.rules grammar.Constant) h c.is.ensures.found c.if-is.false ∙ later (tail (grammar.rules grammar.Constant)) h c.is-2.ensures.found c.if-is-2.false ∙ later (tail (tail (grammar.rules grammar.Constant))) h c.is-3.ensures.found c.if-is-3.false) (here (c.in_err-low.ensures.taken l)))

pub returns-in_err-high-clause-taken : goal.returns-in_err-high-clause-taken
returns-in_err-high-clause-taken c =
    let h = head grammar.flatzinc c.args.lexer.now.tokens in
    let p = err_from_is_err_and c.from_residual-in_err-high.result c.from_residual-in_err-high.ensures.1 in
    rw (p.1, p.2) (λ l. halts_by {n = grammar.Constant} (later (grammar.rules grammar.Constant) h c.is.ensures.found c.if-is.false ∙ later (tail (grammar.rules grammar.Constant)) h c.is-2.ensures.found c.if-is-2.false ∙ later (tail (tail (grammar.rules grammar.Constant))) h c.is-3.ensures.found c.if-is-3.false) (rule_behind (c.in_ok-low.ensures.taken l) (here (c.in_err-high.ensures.taken l))))

pub returns-in_ok-range-in-Some-clause-taken : goal.returns-in_ok-range-in-Some-clause-taken
returns-in_ok-range-in-Some-clause-taken c =
    let h = head grammar.flatzinc c.args.lexer.now.tokens in
    λ l.
    let high = subst (λ (n : Option Number). Read l (Rule grammar.RangeEnd ∷ []) (option_of number_of n, tt) c.number.new.lexer.tokens c.range_end.new.lexer.tokens) c.in-Some.is (c.in_ok-high.ensures.taken l) in
    subst (λ (s : SetLiteral). Read l (Rule grammar.Constant ∷ []) (trees.Literal (set_of s), tt) c.args.lexer.now.tokens c.range_end.new.lexer.tokens) (sym c.in_ok-range-in-Some.ensures.ok) (reads_by {n = grammar.Constant} (later (grammar.rules grammar.Constant) h c.is.ensures.found c.if-is.false ∙ later (tail (grammar.rules grammar.Constant)) h c.is-2.ensures.found c.if-is-2.false ∙ later (tail (tail (grammar.rules grammar.Constant))) h c.is-3.ensures.found c.if-is-3.false) (rule_then (c.in_ok-low.ensures.taken l) (rule_then high ended)))

pub returns-in-None-clause-taken : goal.returns-in-None-clause-taken
returns-in-None-clause-taken c =
    let h = head grammar.flatzinc c.args.lexer.now.tokens in
    λ l.
    let high = subst (λ (n : Option Number). Read l (Rule grammar.RangeEnd ∷ []) (option_of number_of n, tt) c.number.new.lexer.tokens c.range_end.new.lexer.tokens) c.in-None.is (c.in_ok-high.ensures.taken l) in
    reads_by {n = grammar.Constant} (later (grammar.rules grammar.Constant) h c.is.ensures.found c.if-is.false ∙ later (tail (grammar.rules grammar.Constant)) h c.is-2.ensures.found c.if-is-2.false ∙ later (tail (tail (grammar.rules grammar.Constant))) h c.is-3.ensures.found c.if-is-3.false) (rule_then (c.in_ok-low.ensures.taken l) (rule_then high ended))
