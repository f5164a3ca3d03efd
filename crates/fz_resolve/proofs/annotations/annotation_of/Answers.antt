use Rattle.std.proofs.Common.{◌∙◌, sym}
use Rattle.std.specs.Prelude.{bytes_eq}
use Rattle.fz_language.specs.Trees.{Annotation}
use Rattle.fz_syntax.specs.Trees as trees
use Rattle.fz_syntax.proofs.Firsts.{passes_not, passes_first, passes_none}
use Rattle.fz_resolve.proofs.annotations.annotation_of.Goals as goal

pub returns-then-is_named : goal.returns-then-is_named
returns-then-is_named c =
    passes_first (λ (a : Annotation). bytes_eq c.args.name.now a.name.bytes) trees.annotation_of c.args.annotations.now c.loop-annotation.annotation-index c.annotation-item.result c.loop-annotation-test.true c.annotation-item.is
    (sym c.is_named.ensures ∙ c.if-is_named.true) c.loop-annotation.invariant

pub loop-annotation-preserved : goal.loop-annotation-preserved
loop-annotation-preserved c =
    passes_not (λ (a : Annotation). bytes_eq c.args.name.now a.name.bytes) trees.annotation_of c.args.annotations.now c.loop-annotation.annotation-index c.annotation-item.result c.loop-annotation-test.true c.annotation-item.is
    (sym c.is_named.ensures ∙ c.if-is_named.false) c.loop-annotation.invariant

pub returns : goal.returns
returns c = passes_none (λ (a : Annotation). bytes_eq c.args.name.now a.name.bytes) trees.annotation_of c.args.annotations.now c.loop-annotation.annotation-index c.loop-annotation-test.false c.loop-annotation.invariant
