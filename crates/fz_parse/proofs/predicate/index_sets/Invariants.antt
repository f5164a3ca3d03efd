use Rattle.std.proofs.Common.{◌≡◌, ℕ, map, length, ◌<◌}
use Rattle.fz_language.specs.Grammar.{Indexes, IndexSets}
use Rattle.fz_syntax.specs.Trees.{index_of}
use Rattle.fz_parse.proofs.Lists.{GoesOn}
use Rattle.fz_parse.proofs.predicate.index_sets.Given as goal

abbrev pub invariant-indexes : goal.invariant-indexes
invariant-indexes l = (length l.lexer.tokens < length l.fn.lexer.tokens) × ((level : ℕ) → GoesOn Indexes level IndexSets l.fn.lexer.tokens l.lexer.tokens (λ w. w) (map index_of l.found.items)) × (l.lexer.source ≡ l.fn.lexer.source)

abbrev pub decreases-indexes : goal.decreases-indexes
decreases-indexes l = length l.lexer.tokens
