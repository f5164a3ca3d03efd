use Rattle.std.proofs.Common.{rules}
use Rattle.fz_cmd.proofs.Numbers.{read_within, unread}
use Rattle.fz_cmd.proofs.reading.number_in.Goals as goal

pub returns-then-number-most-clause-is : goal.returns-then-number-most-clause-is
returns-then-number-most-clause-is c =
    read_within c.args.least c.args.most c.in-Ok.number c.args.text.now c.in-Ok.ensures.value.0.0.0 c.in-Ok.ensures.value.0.1
    (search rules) (search rules) (search rules)

pub returns-in-Err-clause-is : goal.returns-in-Err-clause-is
returns-in-Err-clause-is c = unread 64 c.args.least c.args.most c.args.text.now (λ numeral fits. c.in-Err.ensures.value.0 (numeral, fits)) (search rules)
