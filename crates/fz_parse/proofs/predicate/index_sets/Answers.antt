use Rattle.std.proofs.Common.{List, [], ◌∷◌, map, refl, subst, arith, ◌∙◌}
use Rattle.std.proofs.lemmas.Result.{err_from_is_err_and}
use Rattle.fz_language.specs.Trees as trees
use Rattle.fz_language.specs.Grammar.{Indexes, IndexSets}
use Rattle.fz_syntax.specs.Trees.{index_of}
use Rattle.fz_parse.specs.Steps.{Read}
use Rattle.fz_grammar.specs.Grammar.{Rule}
use Rattle.fz_parse.proofs.Follows.{halts_by, here}
use Rattle.fz_parse.proofs.Lists.{GoesOn, goes_index, goes_next, stops_comma, stops_next, reads_end, all_indexes, first_pushed, pushed}
use Rattle.fz_parse.proofs.predicate.index_sets.Goals as goal

pub returns-in_err-index-clause-taken : goal.returns-in_err-index-clause-taken
returns-in_err-index-clause-taken c =
    let p = err_from_is_err_and c.from_residual.result c.from_residual.ensures.1 in
    rw (p.1, p.2) (λ l. halts_by {n = IndexSets} refl (here (c.in_err-index.ensures.taken l)))

pub indexes-init : goal.indexes-init
indexes-init c = (
  omega (arith, c.in_ok-index.ensures.forward),
  λ l.
      subst (λ (v : List trees.Index). GoesOn Indexes l IndexSets c.args.lexer.now.tokens c.index.new.lexer.tokens (λ w. w) v)
      (first_pushed index_of c.push.new.self.items c.new-found.result.items c.in_ok-index.field-0 c.new-found.ensures.items c.in_ok-push.ensures.items)
      (goes_index (c.in_ok-index.ensures.taken l)),
  c.in_ok-index.ensures.same,
)

pub returns-in_err-take-clause-taken : goal.returns-in_err-take-clause-taken
returns-in_err-take-clause-taken c =
    let p = err_from_is_err_and c.from_residual-in_err-take.result c.from_residual-in_err-take.ensures.1 in
    rw (p.1, p.2) (λ l. stops_comma Indexes (c.indexes.invariant.1 l) c.is.ensures.found c.indexes-test.true (c.in_err-take.ensures.taken l))

pub returns-in_err-index-2-clause-taken : goal.returns-in_err-index-2-clause-taken
returns-in_err-index-2-clause-taken c =
    let p = err_from_is_err_and c.from_residual-in_err-index-2.result c.from_residual-in_err-index-2.ensures.1 in
    rw (p.1, p.2) (λ l. stops_next Indexes (c.indexes.invariant.1 l) c.is.ensures.found c.indexes-test.true (c.in_ok-take.ensures.taken l refl) (c.in_err-index-2.ensures.taken l))

pub indexes-preserved : goal.indexes-preserved
indexes-preserved c = (
  omega (arith, c.indexes.invariant.0, c.in_ok-take.ensures.forward, c.in_ok-index-2.ensures.forward),
  λ l.
      subst (λ (v : List trees.Index). GoesOn Indexes l IndexSets c.args.lexer.now.tokens c.index-in-indexes.new.lexer.tokens (λ w. w) v)
      (pushed index_of c.push-in-indexes.new.self.items c.indexes.found.items c.in_ok-index-2.field-0 c.in_ok-push-2.ensures.items)
      (goes_next Indexes (c.indexes.invariant.1 l) c.is.ensures.found c.indexes-test.true (c.in_ok-take.ensures.taken l refl) (c.in_ok-index-2.ensures.taken l)),
  c.in_ok-index-2.ensures.same ∙ c.in_ok-take.ensures.same ∙ c.indexes.invariant.2,
)

pub returns-clause-taken : goal.returns-clause-taken
returns-clause-taken c = λ l.
    subst (λ (v : List trees.Index). Read l (Rule IndexSets ∷ []) (v, tt) c.args.lexer.now.tokens c.indexes.lexer.tokens) (all_indexes (map index_of c.indexes.found.items))
    (reads_end Indexes (c.indexes.invariant.1 l) c.is.ensures.found c.indexes-test.false)
