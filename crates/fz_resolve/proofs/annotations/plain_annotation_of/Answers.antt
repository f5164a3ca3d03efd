use Rattle.std.proofs.Common.{◌∙◌, sym}
use Rattle.std.specs.Prelude.{bytes_eq, length, ◌==◌, ◌&&◌}
use Rattle.fz_language.specs.Trees.{Annotation}
use Rattle.fz_language.specs.Annotations.{arguments_of}
use Rattle.fz_syntax.specs.Trees as trees
use Rattle.fz_syntax.proofs.Firsts.{passes_not, passes_first, passes_none}
use Rattle.fz_resolve.proofs.annotations.plain_annotation_of.Goals as goal

pub returns-then-is_plain : goal.returns-then-is_plain
returns-then-is_plain c =
    passes_first (λ (a : Annotation). bytes_eq c.args.name.now a.name.bytes && (length (arguments_of a) == 0)) trees.annotation_of c.args.annotations.now c.loop-annotation.annotation-index c.annotation-item.result c.loop-annotation-test.true c.annotation-item.is
    (sym c.is_plain.ensures ∙ c.if-is_plain.true) c.loop-annotation.invariant

pub loop-annotation-preserved : goal.loop-annotation-preserved
loop-annotation-preserved c =
    passes_not (λ (a : Annotation). bytes_eq c.args.name.now a.name.bytes && (length (arguments_of a) == 0)) trees.annotation_of c.args.annotations.now c.loop-annotation.annotation-index c.annotation-item.result c.loop-annotation-test.true c.annotation-item.is
    (sym c.is_plain.ensures ∙ c.if-is_plain.false) c.loop-annotation.invariant

pub returns : goal.returns
returns c = passes_none (λ (a : Annotation). bytes_eq c.args.name.now a.name.bytes && (length (arguments_of a) == 0)) trees.annotation_of c.args.annotations.now c.loop-annotation.annotation-index c.loop-annotation-test.false c.loop-annotation.invariant
