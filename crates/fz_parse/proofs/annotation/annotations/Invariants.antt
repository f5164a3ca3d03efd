use Rattle.std.proofs.Common.{◌≡◌, map, length, ◌++◌, ◌≤◌}
use Rattle.fz_language.specs.Grammar.{Annotations}
use Rattle.fz_syntax.specs.Trees.{annotation_of}
use Rattle.fz_parse.proofs.Lists.{Goes}
use Rattle.fz_parse.proofs.annotation.annotations.Given as goal

abbrev pub invariant-annotations : goal.invariant-annotations
invariant-annotations l = (length l.lexer.tokens ≤ length l.fn.lexer.tokens) × (Goes 0 Annotations l.fn.lexer.tokens Annotations l.lexer.tokens (λ w. map annotation_of l.found.items ++ w)) × (l.lexer.source ≡ l.fn.lexer.source)

abbrev pub decreases-annotations : goal.decreases-annotations
decreases-annotations l = length l.lexer.tokens
