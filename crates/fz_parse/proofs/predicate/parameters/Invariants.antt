use Rattle.std.proofs.Common.{◌≡◌, ℕ, map, length, ◌≤◌}
use Rattle.fz_language.specs.Grammar.{Parameters, Listed}
use Rattle.fz_syntax.specs.Trees.{predicate_parameter_of}
use Rattle.fz_parse.proofs.Lists.{GoesOn}
use Rattle.fz_parse.proofs.predicate.parameters.Given as goal

abbrev pub invariant-parameters : goal.invariant-parameters
invariant-parameters l = (length l.lexer.tokens ≤ length l.fn.lexer.tokens) × ((level : ℕ) → level ≤ 8 → GoesOn Parameters level (Listed Parameters) l.fn.lexer.tokens l.lexer.tokens (λ w. w) (map predicate_parameter_of l.found.items)) × (l.lexer.source ≡ l.fn.lexer.source)

abbrev pub decreases-parameters : goal.decreases-parameters
decreases-parameters l = length l.lexer.tokens
