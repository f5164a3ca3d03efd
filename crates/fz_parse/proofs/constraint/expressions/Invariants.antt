use Rattle.std.proofs.Common.{◌≡◌, ℕ, map, length, ◌≤◌}
use Rattle.fz_language.specs.Grammar.{Expressions, Listed}
use Rattle.fz_syntax.specs.Trees.{expression_of}
use Rattle.fz_parse.proofs.Lists.{GoesOn}
use Rattle.fz_parse.proofs.constraint.expressions.Given as goal

abbrev pub invariant-expressions : goal.invariant-expressions
invariant-expressions l = (length l.lexer.tokens ≤ length l.fn.lexer.tokens) × ((level : ℕ) → level ≤ 8 → GoesOn Expressions level (Listed Expressions) l.fn.lexer.tokens l.lexer.tokens (λ w. w) (map expression_of l.found.items)) × (l.lexer.source ≡ l.fn.lexer.source)

abbrev pub decreases-expressions : goal.decreases-expressions
decreases-expressions l = length l.lexer.tokens
