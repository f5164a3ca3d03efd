use Rattle.std.proofs.Common.{◌≡◌, ℕ, Option, Some, List, [], ◌∷◌, refl, ap, subst}
use Rattle.std.proofs.lemmas.Result.{err_from_is_err_and}
use Rattle.fz_language.specs.Grammar as grammar
use Rattle.fz_grammar.specs.Grammar.{Rule}
use Rattle.fz_syntax.specs.declared.annotation.Argument.{Argument}
use Rattle.fz_syntax.specs.Trees.{name_of, arguments_of}
use Rattle.fz_parse.specs.Added.{added, called_in}
use Rattle.fz_parse.specs.Steps.{Read}
use Rattle.fz_parse.proofs.Follows.{reads_by, halts_by, here, leaf_then, rule_then, leaf_behind, ended}
use Rattle.fz_parse.proofs.annotation.annotation.Goals as goal

pub returns-in_err-name-clause-taken : goal.returns-in_err-name-clause-taken
returns-in_err-name-clause-taken c =
    let p = err_from_is_err_and c.from_residual.result c.from_residual.ensures.1 in
    rw (p.1, p.2) (halts_by {n = grammar.Annotation} refl (here (c.in_err-name.ensures.taken 0)))

pub returns-in_err-called-clause-taken : goal.returns-in_err-called-clause-taken
returns-in_err-called-clause-taken c =
    let p = err_from_is_err_and c.from_residual-in_err-called.result c.from_residual-in_err-called.ensures.1 in
    rw (p.1, p.2) (halts_by {n = grammar.Annotation} refl (leaf_behind (c.in_ok-name.ensures.taken 0) (here c.in_err-called.ensures.taken)))

pub returns-in-Some-clause-taken : goal.returns-in-Some-clause-taken
returns-in-Some-clause-taken c =
    let found : added c.new-found.result.items c.called.new.found.items ≡ c.called.new.found.items = ap (λ ys. added ys c.called.new.found.items) c.new-found.ensures.items in
    let called = subst (λ (o : Option ℕ). Read 0 (Rule grammar.Called ∷ []) (called_in (added c.new-found.result.items c.called.new.found.items) o, tt) c.identifier.new.lexer.tokens c.called.new.lexer.tokens) c.in-Some.is c.in_ok-called.ensures.taken in
    subst (λ (ys : List Argument). Read 0 (Rule grammar.Annotation ∷ []) (record { name = name_of c.in_ok-name.name; arguments = Some (arguments_of ys) }, tt) c.args.lexer.now.tokens c.called.new.lexer.tokens) found
    (reads_by {n = grammar.Annotation} refl (leaf_then (c.in_ok-name.ensures.taken 0) (rule_then called ended)))

pub returns-clause-taken : goal.returns-clause-taken
returns-clause-taken c =
    let called = subst (λ (o : Option ℕ). Read 0 (Rule grammar.Called ∷ []) (called_in (added c.new-found.result.items c.called.new.found.items) o, tt) c.identifier.new.lexer.tokens c.called.new.lexer.tokens) c.in-None.is c.in_ok-called.ensures.taken in
    reads_by {n = grammar.Annotation} refl (leaf_then (c.in_ok-name.ensures.taken 0) (rule_then called ended))
