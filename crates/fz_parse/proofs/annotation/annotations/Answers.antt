use Rattle.std.proofs.Common.{List, [], ◌∷◌, ◌++◌, map, refl, ap, subst, append-nil, arith, ◌∙◌}
use Rattle.std.proofs.lemmas.Result.{err_from_is_err_and}
use Rattle.fz_language.specs.Trees as trees
use Rattle.fz_language.specs.Grammar.{flatzinc, rules, Annotations}
use Rattle.fz_grammar.specs.Grammar.{Rule}
use Rattle.fz_grammar.specs.Reading.{head}
use Rattle.fz_syntax.specs.Trees.{annotation_of}
use Rattle.fz_parse.specs.Steps.{Read}
use Rattle.fz_parse.proofs.Follows.{reads_by, halts_by, first, later, here, leaf_behind, ended}
use Rattle.fz_parse.proofs.Lists.{annotations_next, push_before}
use Rattle.fz_parse.proofs.annotation.annotations.Goals as goal

pub returns-in_err-take-clause-taken : goal.returns-in_err-take-clause-taken
returns-in_err-take-clause-taken c =
    let p = err_from_is_err_and c.from_residual.result c.from_residual.ensures.1 in
    let h = head flatzinc c.annotations.lexer.tokens in
    rw (p.1, p.2) (c.annotations.invariant.1.stops _ _ (halts_by (first (rules Annotations) h c.is.ensures.found c.annotations-test.true) (here (c.in_err-take.ensures.taken 0))))

pub returns-in_err-annotation-clause-taken : goal.returns-in_err-annotation-clause-taken
returns-in_err-annotation-clause-taken c =
    let p = err_from_is_err_and c.from_residual-in_err-annotation.result c.from_residual-in_err-annotation.ensures.1 in
    let h = head flatzinc c.annotations.lexer.tokens in
    rw (p.1, p.2) (c.annotations.invariant.1.stops _ _ (halts_by (first (rules Annotations) h c.is.ensures.found c.annotations-test.true) (leaf_behind (c.in_ok-take.ensures.taken 0 refl) (here c.in_err-annotation.ensures.taken))))

pub annotations-preserved : goal.annotations-preserved
annotations-preserved c = (
  omega (arith, c.annotations.invariant.0, c.in_ok-take.ensures.forward, c.in_ok-annotation.ensures.forward),
  record {
    reads = λ new w q.
        subst (λ (v : List trees.Annotation). Read 0 (Rule Annotations ∷ []) (v, tt) c.args.lexer.now.tokens new)
        (push_before annotation_of _ c.annotations.found.items c.in_ok-annotation.field-0 w (c.in_ok-push.ensures.items ∙ ap (λ (l : List _). l ++ c.in_ok-annotation.field-0 ∷ []) c.in_ok-grow.ensures))
        ((annotations_next c.annotations.invariant.1 c.is.ensures.found c.annotations-test.true (c.in_ok-take.ensures.taken 0 refl) c.in_ok-annotation.ensures.taken).reads new w q);
    stops = (annotations_next c.annotations.invariant.1 c.is.ensures.found c.annotations-test.true (c.in_ok-take.ensures.taken 0 refl) c.in_ok-annotation.ensures.taken).stops;
  },
  c.in_ok-annotation.ensures.same ∙ c.in_ok-take.ensures.same ∙ c.annotations.invariant.2,
)

pub returns-clause-taken : goal.returns-clause-taken
returns-clause-taken c =
    let here = c.annotations.lexer.tokens in
    subst (λ (v : List trees.Annotation). Read 0 (Rule Annotations ∷ []) (v, tt) c.args.lexer.now.tokens here) (append-nil (map annotation_of c.annotations.found.items))
    (c.annotations.invariant.1.reads here [] (reads_by (later (rules Annotations) (head flatzinc here) c.is.ensures.found c.annotations-test.false) ended))
