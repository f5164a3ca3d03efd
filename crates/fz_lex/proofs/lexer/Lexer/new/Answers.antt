use Rattle.std.proofs.Common.{ap, sym, subst, arith, ◌∙◌}
use Rattle.fz_language.specs.Tokens.{LeadsTo}
use Rattle.fz_lex.specs.Ahead.{Ahead}
use Rattle.fz_lex.proofs.Aheads.{leads_ahead, text_ahead}
use Rattle.fz_lex.proofs.lexer.Lexer.new.Goals as goal

pub returns-clause-text : goal.returns-clause-text
returns-clause-text c = ap (λ (a : Ahead). a.source.text) c.settle.ensures.ahead ∙ text_ahead c.args.text.now 0

pub returns-clause-ahead : goal.returns-clause-ahead
returns-clause-ahead c =
    subst (λ (a : Ahead). LeadsTo c.args.text.now 0 a.tokens a.source.ending) (sym c.settle.ensures.ahead) (leads_ahead c.args.text.now 0 (omega arith))
