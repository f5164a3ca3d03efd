use Rattle.std.proofs.Common.{List, [], ◌∷◌, map, subst, append-nil, arith, ◌∙◌}
use Rattle.std.proofs.lemmas.Result.{err_from_is_err_and}
use Rattle.fz_language.specs.Trees as trees
use Rattle.fz_language.specs.Kinds.{number}
use Rattle.fz_language.specs.Grammar.{flatzinc, rules, Items, item_kinds}
use Rattle.fz_grammar.specs.Grammar.{Rule}
use Rattle.fz_grammar.specs.Reading.{head}
use Rattle.fz_syntax.specs.Trees.{item_of}
use Rattle.fz_parse.specs.Steps.{Read}
use Rattle.fz_parse.proofs.Follows.{reads_by, halts_by, first, later, here, ended}
use Rattle.fz_parse.proofs.Takes.{kind_has}
use Rattle.fz_parse.proofs.Lists.{items_next, push_before}
use Rattle.fz_parse.proofs.program.items.Goals as goal

pub returns-in_err-item-clause-taken : goal.returns-in_err-item-clause-taken
returns-in_err-item-clause-taken c =
    let p = err_from_is_err_and c.from_residual.result c.from_residual.ensures.1 in
    let mid = c.items.lexer.tokens in
    rw (p.1, p.2) (c.items.invariant.1.stops _ _ (halts_by (first (rules Items) (head flatzinc mid) (kind_has (map number item_kinds) mid c.begins_item.ensures c.kind.ensures) c.items-test.true) (here c.in_err-item.ensures.taken)))

pub items-preserved : goal.items-preserved
items-preserved c =
    let mid = c.items.lexer.tokens in
    let step = items_next c.items.invariant.1 (kind_has (map number item_kinds) mid c.begins_item.ensures c.kind.ensures) c.items-test.true c.in_ok-item.ensures.taken in (
      omega (arith, c.items.invariant.0, c.in_ok-item.ensures.forward),
      record {
        reads = λ new w q.
            subst (λ (v : List trees.Item). Read 0 (Rule Items ∷ []) (v, tt) c.args.lexer.now.tokens new)
            (push_before item_of _ c.items.found.items c.in_ok-item.field-0 w c.in_ok-push.ensures.items)
            (step.reads new w q);
        stops = step.stops;
      },
      c.in_ok-item.ensures.same ∙ c.items.invariant.2,
    )

pub returns-clause-taken : goal.returns-clause-taken
returns-clause-taken c =
    let mid = c.items.lexer.tokens in
    subst (λ (v : List trees.Item). Read 0 (Rule Items ∷ []) (v, tt) c.args.lexer.now.tokens mid) (append-nil (map item_of c.items.found.items))
    (c.items.invariant.1.reads mid [] (reads_by (later (rules Items) (head flatzinc mid) (kind_has (map number item_kinds) mid c.begins_item.ensures c.kind.ensures) c.items-test.false) ended))
