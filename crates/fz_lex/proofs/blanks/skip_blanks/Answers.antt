use Rattle.std.proofs.Common.{◌∙◌, sym, arith}
use Rattle.fz_language.specs.Tokens.{Ends}
use Rattle.fz_lex.proofs.Gaps.{space_gap, comment_gap}
use Rattle.fz_lex.proofs.blanks.skip_blanks.Goals as goal

pub blanks-init : goal.blanks-init
blanks-init c = (c.requires.within, Ends c.args.from c.requires.within)

pub blanks-preserved-then-is_space : goal.blanks-preserved-then-is_space
blanks-preserved-then-is_space c = (omega (arith, c.blanks-test.true), space_gap c.args.text.now c.args.from c.blanks.at c.blanks.invariant.1 c.blanks-test.true (sym c.is_space.ensures ∙ c.if-is_space.true))

pub blanks-preserved : goal.blanks-preserved
blanks-preserved c = (c.comment_end-at.ensures.within, comment_gap c.args.text.now c.args.from c.blanks.at c.comment_end-at.result c.blanks.invariant.1 c.comment_end-at.ensures)
