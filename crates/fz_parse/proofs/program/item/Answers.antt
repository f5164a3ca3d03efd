use Rattle.std.proofs.Common.{◌∙◌, subst, sym, [], ◌∷◌}
use Rattle.std.proofs.lemmas.Result.{err_from_is_err_and}
use Rattle.fz_language.specs.Grammar as grammar
use Rattle.fz_language.specs.Trees as trees
use Rattle.fz_grammar.specs.Grammar.{Rule}
use Rattle.fz_syntax.specs.declared.item.ArrayItem.{ArrayItem}
use Rattle.fz_syntax.specs.Trees.{array_item_of}
use Rattle.fz_grammar.specs.Reading.{head}
use Rattle.fz_parse.specs.Steps.{Read}
use Rattle.fz_parse.proofs.Follows.{reads_by, halts_by, first, later, tail, here, rule_then, ended}
use Rattle.std.proofs.Common.{map}
use Rattle.fz_language.specs.Kinds.{number}
use Rattle.fz_parse.proofs.Takes.{kind_has}
use Rattle.fz_parse.proofs.program.item.Goals as goal

pub returns-in_err-item-clause-taken : goal.returns-in_err-item-clause-taken
returns-in_err-item-clause-taken c =
    let h = head grammar.flatzinc c.args.lexer.now.tokens in
    let p = err_from_is_err_and c.from_residual.result c.from_residual.ensures.1 in
    rw (p.1, p.2) (halts_by {n = grammar.OneItem} (first (grammar.rules grammar.OneItem) h c.is.ensures.found c.if-is.true) (here (c.in_err-item.ensures.taken)))

pub returns-then-is-clause-taken : goal.returns-then-is-clause-taken
returns-then-is-clause-taken c =
    let h = head grammar.flatzinc c.args.lexer.now.tokens in
    reads_by {n = grammar.OneItem} (first (grammar.rules grammar.OneItem) h c.is.ensures.found c.if-is.true) (rule_then (c.in_ok-item.ensures.taken) ended)

pub returns-in_err-item-2-clause-taken : goal.returns-in_err-item-2-clause-taken
returns-in_err-item-2-clause-taken c =
    let h = head grammar.flatzinc c.args.lexer.now.tokens in
    let p = err_from_is_err_and c.from_residual-in_err-item-2.result c.from_residual-in_err-item-2.ensures.1 in
    rw (p.1, p.2) (halts_by {n = grammar.OneItem} (later (grammar.rules grammar.OneItem) h c.is.ensures.found c.if-is.false ∙ first (tail (grammar.rules grammar.OneItem)) h c.is-2.ensures.found c.if-is-2.true) (here (c.in_err-item-2.ensures.taken)))

pub returns-then-is-2-clause-taken : goal.returns-then-is-2-clause-taken
returns-then-is-2-clause-taken c =
    let h = head grammar.flatzinc c.args.lexer.now.tokens in
    reads_by {n = grammar.OneItem} (later (grammar.rules grammar.OneItem) h c.is.ensures.found c.if-is.false ∙ first (tail (grammar.rules grammar.OneItem)) h c.is-2.ensures.found c.if-is-2.true) (rule_then (c.in_ok-item-2.ensures.taken) ended)

pub returns-in_err-item-3-clause-taken : goal.returns-in_err-item-3-clause-taken
returns-in_err-item-3-clause-taken c =
    let h = head grammar.flatzinc c.args.lexer.now.tokens in
    let p = err_from_is_err_and c.from_residual-in_err-item-3.result c.from_residual-in_err-item-3.ensures.1 in
    rw (p.1, p.2) (halts_by {n = grammar.OneItem} (later (grammar.rules grammar.OneItem) h c.is.ensures.found c.if-is.false ∙ later (tail (grammar.rules grammar.OneItem)) h c.is-2.ensures.found c.if-is-2.false ∙ first (tail (tail (grammar.rules grammar.OneItem))) h c.is-3.ensures.found c.if-is-3.true) (here (c.in_err-item-3.ensures.taken)))

pub returns-then-is-3-clause-taken : goal.returns-then-is-3-clause-taken
returns-then-is-3-clause-taken c =
    let h = head grammar.flatzinc c.args.lexer.now.tokens in
    subst (λ (a : ArrayItem). Read 0 (Rule grammar.OneItem ∷ []) (trees.Array (array_item_of a), tt) c.args.lexer.now.tokens c.array_item.new.lexer.tokens) (sym c.in_ok-new.ensures.ok) (reads_by {n = grammar.OneItem} (later (grammar.rules grammar.OneItem) h c.is.ensures.found c.if-is.false ∙ later (tail (grammar.rules grammar.OneItem)) h c.is-2.ensures.found c.if-is-2.false ∙ first (tail (tail (grammar.rules grammar.OneItem))) h c.is-3.ensures.found c.if-is-3.true) (rule_then (c.in_ok-item-3.ensures.taken) ended))

pub returns-in_err-item-4-clause-taken : goal.returns-in_err-item-4-clause-taken
returns-in_err-item-4-clause-taken c =
    let h = head grammar.flatzinc c.args.lexer.now.tokens in
    let p = err_from_is_err_and c.from_residual-in_err-item-4.result c.from_residual-in_err-item-4.ensures.1 in
    rw (p.1, p.2) (halts_by {n = grammar.OneItem} (later (grammar.rules grammar.OneItem) h c.is.ensures.found c.if-is.false ∙ later (tail (grammar.rules grammar.OneItem)) h c.is-2.ensures.found c.if-is-2.false ∙ later (tail (tail (grammar.rules grammar.OneItem))) h c.is-3.ensures.found c.if-is-3.false ∙ first (tail (tail (tail (grammar.rules grammar.OneItem)))) h (kind_has (map number grammar.type_kinds) c.args.lexer.now.tokens c.begins_type.ensures c.kind.ensures) c.if-begins_type.true) (here (c.in_err-item-4.ensures.taken)))

pub returns-then-begins_type-clause-taken : goal.returns-then-begins_type-clause-taken
returns-then-begins_type-clause-taken c =
    let h = head grammar.flatzinc c.args.lexer.now.tokens in
    reads_by {n = grammar.OneItem} (later (grammar.rules grammar.OneItem) h c.is.ensures.found c.if-is.false ∙ later (tail (grammar.rules grammar.OneItem)) h c.is-2.ensures.found c.if-is-2.false ∙ later (tail (tail (grammar.rules grammar.OneItem))) h c.is-3.ensures.found c.if-is-3.false ∙ first (tail (tail (tail (grammar.rules grammar.OneItem)))) h (kind_has (map number grammar.type_kinds) c.args.lexer.now.tokens c.begins_type.ensures c.kind.ensures) c.if-begins_type.true) (rule_then (c.in_ok-item-4.ensures.taken) ended)

pub returns-in_err-item-5-clause-taken : goal.returns-in_err-item-5-clause-taken
returns-in_err-item-5-clause-taken c =
    let h = head grammar.flatzinc c.args.lexer.now.tokens in
    let p = err_from_is_err_and c.from_residual-in_err-item-5.result c.from_residual-in_err-item-5.ensures.1 in
    rw (p.1, p.2) (halts_by {n = grammar.OneItem} (later (grammar.rules grammar.OneItem) h c.is.ensures.found c.if-is.false ∙ later (tail (grammar.rules grammar.OneItem)) h c.is-2.ensures.found c.if-is-2.false ∙ later (tail (tail (grammar.rules grammar.OneItem))) h c.is-3.ensures.found c.if-is-3.false ∙ later (tail (tail (tail (grammar.rules grammar.OneItem)))) h (kind_has (map number grammar.type_kinds) c.args.lexer.now.tokens c.begins_type.ensures c.kind.ensures) c.if-begins_type.false) (here (c.in_err-item-5.ensures.taken)))

pub returns-clause-taken : goal.returns-clause-taken
returns-clause-taken c =
    let h = head grammar.flatzinc c.args.lexer.now.tokens in
    reads_by {n = grammar.OneItem} (later (grammar.rules grammar.OneItem) h c.is.ensures.found c.if-is.false ∙ later (tail (grammar.rules grammar.OneItem)) h c.is-2.ensures.found c.if-is-2.false ∙ later (tail (tail (grammar.rules grammar.OneItem))) h c.is-3.ensures.found c.if-is-3.false ∙ later (tail (tail (tail (grammar.rules grammar.OneItem)))) h (kind_has (map number grammar.type_kinds) c.args.lexer.now.tokens c.begins_type.ensures c.kind.ensures) c.if-begins_type.false) (rule_then (c.in_ok-item-5.ensures.taken) ended)
