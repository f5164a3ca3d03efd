use Rattle.std.proofs.Common.{rules}
use Rattle.std.proofs.Math.Facts.{to_z-of_z}
use mir.Val.{SFits}
use mir.Syntax.{w64}
use Rattle.fz_cmd.proofs.Numbers.{signed_within, signed_unread}
use Rattle.fz_cmd.proofs.reading.signed_in.Goals as goal

pub returns-then-value-most-clause-is : goal.returns-then-value-most-clause-is
returns-then-value-most-clause-is c =
    let fits : SFits w64 c.in-Ok.value = search rules in
    rw (to_z-of_z fits) (signed_within c.args.least c.args.most c.in-Ok.value c.args.text.now c.in-Ok.ensures.value.0.0.0 c.in-Ok.ensures.value.0.1 fits (search rules) (search rules))

pub returns-in-Err-clause-is : goal.returns-in-Err-clause-is
returns-in-Err-clause-is c = signed_unread c.args.least c.args.most c.args.text.now (λ numeral fits low high. c.in-Err.ensures.value.0 (numeral, fits))
