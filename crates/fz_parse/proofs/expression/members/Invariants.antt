use Rattle.std.proofs.Common.{◌≡◌, ℕ, map, length, ◌≤◌}
use Rattle.fz_language.specs.Grammar.{Members, Listed}
use Rattle.fz_syntax.specs.Trees.{number_of}
use Rattle.fz_parse.proofs.Lists.{GoesOn}
use Rattle.fz_parse.proofs.expression.members.Given as goal

abbrev pub invariant-members : goal.invariant-members
invariant-members l = (length l.lexer.tokens ≤ length l.fn.lexer.tokens) × ((level : ℕ) → GoesOn Members level (Listed Members) l.fn.lexer.tokens l.lexer.tokens (λ w. w) (map number_of l.found.items)) × (l.lexer.source ≡ l.fn.lexer.source)

abbrev pub decreases-members : goal.decreases-members
decreases-members l = length l.lexer.tokens
