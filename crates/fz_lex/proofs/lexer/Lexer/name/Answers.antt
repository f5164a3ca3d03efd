use Rattle.std.proofs.Common.{◌∷◌, drop, arith, ap, ◌∙◌}
use Rattle.fz_language.specs.declared.token_kind.TokenKind.TheVariants as kind
use Rattle.fz_lex.specs.declared.lexeme.Lexeme.{Lexeme}
use Rattle.fz_lex.specs.Lexed.{lexeme_of}
use Rattle.fz_lex.specs.Lexers.{ahead_of}
use Rattle.fz_lex.proofs.Aheads.{begins_token, no_identifier, none_ahead, no_token_ahead}
use Rattle.fz_lex.proofs.lexer.Lexer.name.Goals as goal

pub returns-in-Identifier : goal.returns-in-Identifier
returns-in-Identifier c =
    let l = c.self.inside in
    rw (← c.self.view_is) (begins_token l.text.now l.at l.head c.in-Token.lexeme c.in-Token.stop c.self.invariant c.in-Token.is
    ∙ ap (λ (x : Lexeme). record { lexeme = lexeme_of l.text.now l.at x; at = l.at } ∷ drop 1 (ahead_of l.text.now l.at).tokens) c.in-Identifier.is)

pub returns-in_default-lexeme : goal.returns-in_default-lexeme
returns-in_default-lexeme c =
    let l = c.self.inside in
    rw (← c.self.view_is) (no_identifier l.text.now l.at l.head c.in-Token.lexeme c.in-Token.stop c.self.invariant c.in-Token.is c.in_default-lexeme.not-Identifier)

pub returns-in_default : goal.returns-in_default
returns-in_default c =
    let l = c.self.inside in
    rw (← c.self.view_is) (no_token_ahead (ahead_of l.text.now l.at).tokens kind.Identifier (none_ahead l.text.now l.at l.head c.self.invariant c.in_default.not-Token) (λ e. omega (arith, e)))
