use Rattle.fz_syntax.specs.Trees as trees
use Rattle.fz_resolve.specs.Meant.{environment_of}
use Rattle.fz_solve.proofs.SearchLaws.{Searched}
use Rattle.fz_solve.proofs.search.search.Given as goal

-- those of the annotations so far
abbrev pub invariant-loop-annotation : goal.invariant-loop-annotation
invariant-loop-annotation l = Searched (environment_of l.names) trees.annotation_of l.annotations l.annotation-index l.words l.parts.items
