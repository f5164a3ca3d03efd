use Rattle.fz_lex.proofs.Gaps.{gap_within}
use Rattle.fz_lex.proofs.Aheads.{ahead_gap}
use Rattle.fz_lex.proofs.lexer.settle.Goals as goal

pub head_at-requires-clause-within : goal.head_at-requires-clause-within
head_at-requires-clause-within c = gap_within c.args.text.now c.args.from c.skip_blanks.result c.skip_blanks.ensures.gap

pub returns-clause-ahead : goal.returns-clause-ahead
returns-clause-ahead c = ahead_gap c.args.text.now c.args.from c.skip_blanks.result c.requires.within c.skip_blanks.ensures.gap
