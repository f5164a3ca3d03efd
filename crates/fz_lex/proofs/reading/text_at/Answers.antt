use Rattle.std.proofs.Common.{◌+◌, arith}
use Rattle.fz_lex.proofs.Strings.{closes_at, none_at_end}
use Rattle.fz_lex.proofs.Founds.{text_found, open_text}
use Rattle.fz_lex.proofs.reading.text_at.Goals as goal

pub returns-then-text-stop-eq34 : goal.returns-then-text-stop-eq34
returns-then-text-stop-eq34 c =
    let i = c.string.invariant in
    text_found c.args.text.now c.args.at c.string.stop c.requires.quote (omega (arith, i.0)) c.string-test.true c.if-text-stop-eq34.true i.2
    (i.3 (c.string.stop + 1) (omega (arith, c.string-test.true)) (closes_at c.args.text.now c.string.stop c.string-test.true c.if-text-stop-eq34.true))

pub returns-in-None : goal.returns-in-None
returns-in-None c = open_text c.args.text.now c.args.at c.requires.within c.requires.quote (λ end w i. c.in-None.ensures end w (c.string.invariant.2 end w i))

pub returns : goal.returns
returns c =
    open_text c.args.text.now c.args.at c.requires.within c.requires.quote (λ end w i. none_at_end c.args.text.now c.string.stop (omega (arith, c.string-test.false)) end w (c.string.invariant.2 end w i))
