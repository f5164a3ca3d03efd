use Rattle.std.proofs.Common.{drop, ap, sym, refl, ◌∙◌}
use Rattle.fz_lex.specs.Ahead.{Ahead}
use Rattle.fz_lex.proofs.Aheads.{at_token, none_ahead}
use Rattle.fz_lex.proofs.lexer.Lexer.advance.Goals as goal

pub returns-in-Token-clause-tokens : goal.returns-in-Token-clause-tokens
returns-in-Token-clause-tokens c =
    let l = c.self.inside in
    rw (← c.self.view_is) (ap (λ (a : Ahead). a.tokens) (c.settle.ensures.ahead)
    ∙ sym (ap (λ (a : Ahead). drop 1 a.tokens) (at_token l.text.now l.at l.head c.in-Token.lexeme c.in-Token.stop c.self.invariant c.in-Token.is)))

pub returns-in-Token-clause-source : goal.returns-in-Token-clause-source
returns-in-Token-clause-source c =
    let l = c.self.inside in
    rw (← c.self.view_is) (ap (λ (a : Ahead). a.source) (c.settle.ensures.ahead)
    ∙ sym (ap (λ (a : Ahead). a.source) (at_token l.text.now l.at l.head c.in-Token.lexeme c.in-Token.stop c.self.invariant c.in-Token.is)))

pub returns-in_default : goal.returns-in_default
returns-in_default c =
    let l = c.self.inside in
    let none = none_ahead l.text.now l.at l.head c.self.invariant c.in_default.not-Token in
    rw (← c.self.view_is) (record { tokens = none ∙ sym (ap (drop 1) none); source = refl })
