use Rattle.std.proofs.Common.{◌≡◌, map, length, ◌++◌, ◌≤◌}
use Rattle.fz_language.specs.Grammar.{Items}
use Rattle.fz_syntax.specs.Trees.{item_of}
use Rattle.fz_parse.proofs.Lists.{Goes}
use Rattle.fz_parse.proofs.program.items.Given as goal

abbrev pub invariant-items : goal.invariant-items
invariant-items l = (length l.lexer.tokens ≤ length l.fn.lexer.tokens) × (Goes 0 Items l.fn.lexer.tokens Items l.lexer.tokens (λ w. map item_of l.found.items ++ w)) × (l.lexer.source ≡ l.fn.lexer.source)

abbrev pub decreases-items : goal.decreases-items
decreases-items l = length l.lexer.tokens
