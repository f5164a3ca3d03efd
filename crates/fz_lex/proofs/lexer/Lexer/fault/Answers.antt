use Rattle.std.proofs.Common.{rules, ◌≡◌, ap, sym, ◌∙◌}
use Rattle.fz_lex.specs.Ahead.{Ahead, Source, head_kind}
use Rattle.fz_lex.proofs.Aheads.{at_fault, ends_there, no_kind}
use Rattle.fz_lex.proofs.lexer.Lexer.fault.Goals as goal

pub returns-in-Fault : goal.returns-in-Fault
returns-in-Fault c =
    let l = c.lexer.inside in
    ap (λ (s : Source). s.ending) (sym c.tokens.invariant)
    ∙ ap (λ (a : Ahead). a.source.ending) (sym c.lexer.view_is ∙ at_fault l.text.now l.at l.head c.in-Fault.cause c.lexer.invariant c.in-Fault.is)

pub returns-in_default : goal.returns-in_default
returns-in_default c =
    let l = c.lexer.inside in
    let none : head_kind c.tokens.lexer.tokens ≡ 0 = search rules in
    ap (λ (s : Source). s.ending) (sym c.tokens.invariant)
    ∙ ap (λ (a : Ahead). a.source.ending) (sym c.lexer.view_is)
    ∙ ends_there l.text.now l.at l.head c.lexer.invariant (ap (λ (a : Ahead). a.tokens) c.lexer.view_is ∙ no_kind c.tokens.lexer.tokens none) c.in_default.not-Fault
