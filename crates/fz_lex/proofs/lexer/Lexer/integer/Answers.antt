use Rattle.std.proofs.Common.{rules, ℤ, ◌∷◌, drop, arith, ap, sym, ◌∙◌}
use Rattle.std.proofs.lemmas.Int.{to_z-of_z}
use mir.Syntax.{w32}
use mir.Val.{SFits}
use Rattle.fz_language.specs.declared.token_kind.TokenKind.TheVariants as kind
use Rattle.fz_language.specs.Tokens as language
use Rattle.fz_lex.specs.declared.lexeme.Lexeme.{Lexeme}
use Rattle.fz_lex.specs.Lexed.{lexeme_of}
use Rattle.fz_lex.specs.Lexers.{ahead_of}
use Rattle.fz_lex.proofs.Aheads.{begins_token, no_integer, none_ahead, no_token_ahead}
use Rattle.fz_lex.proofs.lexer.Lexer.integer.Goals as goal

pub returns-in-Integer : goal.returns-in-Integer
returns-in-Integer c =
    let l = c.self.inside in
    let fits : SFits w32 c.in-Integer.value = search rules in
    rw (← c.self.view_is) (begins_token l.text.now l.at l.head c.in-Token.lexeme c.in-Token.stop c.self.invariant c.in-Token.is
    ∙ ap (λ (x : Lexeme). record { lexeme = lexeme_of l.text.now l.at x; at = l.at } ∷ drop 1 (ahead_of l.text.now l.at).tokens) c.in-Integer.is
    ∙ ap (λ (v : ℤ). record { lexeme = language.Number v; at = l.at } ∷ drop 1 (ahead_of l.text.now l.at).tokens) (sym (to_z-of_z w32 c.in-Integer.value fits)))

pub returns-in_default-lexeme : goal.returns-in_default-lexeme
returns-in_default-lexeme c =
    let l = c.self.inside in
    rw (← c.self.view_is) (no_integer l.text.now l.at l.head c.in-Token.lexeme c.in-Token.stop c.self.invariant c.in-Token.is c.in_default-lexeme.not-Integer)

pub returns-in_default : goal.returns-in_default
returns-in_default c =
    let l = c.self.inside in
    rw (← c.self.view_is) (no_token_ahead (ahead_of l.text.now l.at).tokens kind.Integer (none_ahead l.text.now l.at l.head c.self.invariant c.in_default.not-Token) (λ e. omega (arith, e)))
