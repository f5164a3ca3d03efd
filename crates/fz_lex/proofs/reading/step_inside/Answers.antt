use Rattle.std.proofs.Common.{arith}
use Rattle.fz_lex.proofs.Strings.{none_at_line, plain_step, none_at_last, none_before_line, escape_step}
use Rattle.fz_lex.proofs.reading.step_inside.Goals as goal

pub returns-then-text-at-eq10 : goal.returns-then-text-at-eq10
returns-then-text-at-eq10 c = none_at_line c.args.text.now c.args.at c.if-text-at-eq10.true

pub returns-then-text-at-ne92 : goal.returns-then-text-at-ne92
returns-then-text-at-ne92 c = plain_step c.args.text.now c.args.at c.requires.within c.requires.inside c.if-text-at-eq10.false c.if-text-at-ne92.true

pub returns-then-at-text : goal.returns-then-at-text
returns-then-at-text c = none_at_last c.args.text.now c.args.at c.if-at-text.true c.if-text-at-ne92.false c.requires.inside

pub returns-then-text-at-eq10-2 : goal.returns-then-text-at-eq10-2
returns-then-text-at-eq10-2 c = none_before_line c.args.text.now c.args.at c.if-text-at-eq10-2.true c.if-text-at-ne92.false c.requires.inside

pub returns : goal.returns
returns c = escape_step c.args.text.now c.args.at (omega (arith, c.requires.within, c.if-at-text.false)) c.requires.inside c.if-text-at-ne92.false c.if-text-at-eq10-2.false
