use Rattle.std.proofs.Common.{◌≡◌, ℕ, length, ◌≤◌}
use Rattle.fz_language.specs.Grammar.{Elements, Listed}
use Rattle.fz_syntax.specs.Trees.{elements_of}
use Rattle.fz_parse.proofs.Lists.{GoesOn}
use Rattle.fz_parse.proofs.expression.elements.Given as goal

abbrev pub invariant-elements : goal.invariant-elements
invariant-elements l = (length l.lexer.tokens ≤ length l.fn.lexer.tokens) × ((level : ℕ) → GoesOn Elements level (Listed Elements) l.fn.lexer.tokens l.lexer.tokens (λ w. w) (elements_of l.found)) × (l.lexer.source ≡ l.fn.lexer.source)

abbrev pub decreases-elements : goal.decreases-elements
decreases-elements l = length l.lexer.tokens
