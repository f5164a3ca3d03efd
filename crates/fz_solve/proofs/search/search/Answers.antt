use Rattle.std.proofs.Common.{◌+◌, List, false, subst, sym}
use Rattle.fz_spec.specs.Instance.{SearchPart}
use Rattle.fz_syntax.specs.Trees as trees
use Rattle.fz_resolve.specs.Meant.{environment_of}
use Rattle.fz_solve.specs.Searches.{and_word}
use Rattle.fz_solve.specs.declared.search.Words.{Words}
use Rattle.fz_solve.proofs.SearchLaws.{Searched, none_searched, one_searched, all_searched}
use Rattle.fz_solve.proofs.search.search.Goals as goal

pub loop-annotation-init : goal.loop-annotation-init
loop-annotation-init c =
    subst (λ (ps : List SearchPart). Searched (environment_of c.args.names.now) trees.annotation_of c.args.annotations.now 0 (record { int_search = false; bool_search = false; seq_search = false }) ps) (sym c.new-parts.ensures.items)
    (none_searched (environment_of c.args.names.now) trees.annotation_of c.args.annotations.now)

pub loop-annotation-preserved : goal.loop-annotation-preserved
loop-annotation-preserved c =
    let env = environment_of c.args.names.now in
    let words = c.loop-annotation.words in
    let annotation = c.annotation-item.result in
    subst (λ (ws : Words). Searched env trees.annotation_of c.args.annotations.now (c.loop-annotation.annotation-index + 1) ws c.push_first.new.parts.items) (sym c.and_word-words.ensures)
    (subst (λ (ps : List SearchPart). Searched env trees.annotation_of c.args.annotations.now (c.loop-annotation.annotation-index + 1) (and_word words annotation.name.bytes.now) ps) (sym c.in_ok-push_first.ensures)
    (one_searched env trees.annotation_of c.args.annotations.now c.loop-annotation.annotation-index annotation words c.loop-annotation.parts.items c.loop-annotation-test.true c.annotation-item.is c.loop-annotation.invariant))

pub returns : goal.returns
returns c =
    all_searched (environment_of c.args.names.now) trees.annotation_of c.args.annotations.now c.loop-annotation.annotation-index c.loop-annotation.words c.loop-annotation.parts.items c.loop-annotation-test.false c.loop-annotation.invariant
