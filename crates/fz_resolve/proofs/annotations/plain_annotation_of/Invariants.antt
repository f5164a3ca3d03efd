use Rattle.std.proofs.Common.{◌≡◌, take, map, None}
use Rattle.std.specs.Prelude.{find, bytes_eq, length, ◌==◌, ◌&&◌}
use Rattle.fz_language.specs.Trees.{Annotation}
use Rattle.fz_language.specs.Annotations.{arguments_of}
use Rattle.fz_syntax.specs.Trees as trees
use Rattle.fz_resolve.proofs.annotations.plain_annotation_of.Given as goal

-- none so far has the name without arguments
abbrev pub invariant-loop-annotation : goal.invariant-loop-annotation
invariant-loop-annotation l = find (λ (a : Annotation). bytes_eq l.name a.name.bytes && (length (arguments_of a) == 0)) (map trees.annotation_of (take l.annotation-index l.annotations)) ≡ None
