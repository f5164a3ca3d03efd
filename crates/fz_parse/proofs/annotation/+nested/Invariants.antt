use Rattle.std.proofs.Common.{◌≡◌, length, ◌+◌, ◌*◌, ◌-◌, ◌≤◌}
use Rattle.fz_language.specs.Grammar.{Arguments, Listed}
use Rattle.fz_syntax.specs.Trees.{trees_of}
use Rattle.fz_parse.specs.Added.{AreAdded, added}
use Rattle.fz_parse.proofs.Lists.{GoesOn}
use Rattle.fz_parse.proofs.annotation.+nested.Given as goal

abbrev pub decreases-called : goal.decreases-called
decreases-called l = 3 * l.left

abbrev pub decreases-argument : goal.decreases-argument
decreases-argument l = 3 * l.left + 1

abbrev pub decreases-arguments : goal.decreases-arguments
decreases-arguments l = 3 * l.left + 2

abbrev pub invariant-arguments-arguments : goal.invariant-arguments-arguments
invariant-arguments-arguments l = (length l.lexer.tokens ≤ length l.fn.lexer.tokens) × (GoesOn Arguments (64 - l.left) (Listed Arguments) l.fn.lexer.tokens l.lexer.tokens (λ w. w) (trees_of (added l.fn.found.items l.found.items))) × (AreAdded l.count l.fn.found.items l.found.items) × (l.lexer.source ≡ l.fn.lexer.source)

abbrev pub decreases-arguments-arguments : goal.decreases-arguments-arguments
decreases-arguments-arguments l = length l.lexer.tokens
