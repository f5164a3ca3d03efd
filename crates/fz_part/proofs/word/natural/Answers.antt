use Rattle.std.proofs.Common.{◌∙◌}
use Rattle.fz_part.proofs.Wording.{decimal_text, decimal_parsed}
use Rattle.fz_part.proofs.word.natural.Goals as goal

pub returns-in_default : goal.returns-in_default
returns-in_default c = λ n small is. absurd (c.in_default.ensures.cases.0 (decimal_text n c.args.word.now small is))

pub returns : goal.returns
returns c = λ n small is. c.ok.ensures.value ∙ decimal_parsed n c.args.word.now c.in-Ok.digits.now c.parse.result small is c.in-Ok.ensures.cases.0 c.parse.ensures.value.0
