use Rattle.std.proofs.Common.{◌≡◌, length}
use Rattle.fz_lex.proofs.lexer.Lexer.fault.Given as goal

abbrev pub invariant-tokens : goal.invariant-tokens
invariant-tokens l = l.lexer.source ≡ l.fn.self.source

abbrev pub decreases-tokens : goal.decreases-tokens
decreases-tokens l = length l.lexer.tokens
