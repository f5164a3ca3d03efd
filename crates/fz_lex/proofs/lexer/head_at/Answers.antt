use Rattle.fz_lex.proofs.lexer.head_at.Goals as goal

pub returns-in-Err : goal.returns-in-Err
returns-in-Err c = record { short = c.requires.short; within = c.requires.within; is = c.in-Err.ensures }
