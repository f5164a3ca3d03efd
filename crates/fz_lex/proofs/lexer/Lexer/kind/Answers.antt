use Rattle.std.proofs.Common.{ap, sym, ◌∙◌}
use Rattle.fz_language.specs.Kinds.{number}
use Rattle.fz_lex.specs.Ahead.{Ahead, head_kind}
use Rattle.fz_lex.proofs.Aheads.{at_token, none_ahead}
use Rattle.fz_lex.proofs.lexer.Lexer.kind.Goals as goal

pub returns-in-Token : goal.returns-in-Token
returns-in-Token c =
    let l = c.self.inside in
    rw (← c.self.view_is) (ap number (c.kind_of.ensures l.text.now l.at)
    ∙ sym (ap (λ (a : Ahead). head_kind a.tokens) (at_token l.text.now l.at l.head c.in-Token.lexeme c.in-Token.stop c.self.invariant c.in-Token.is)))

pub returns-in_default : goal.returns-in_default
returns-in_default c =
    let l = c.self.inside in
    rw (← c.self.view_is) (sym (ap head_kind (none_ahead l.text.now l.at l.head c.self.invariant c.in_default.not-Token)))
