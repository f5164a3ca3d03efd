use Rattle.std.proofs.Common.{rules}
use Rattle.fz_plain.specs.Plain.{IsTwice}
use Rattle.fz_plain.proofs.Results.{quotient_plain}
use Rattle.fz_plain.proofs.equations.plain_quotient.Goals as goal

pub returns-then-are_twice : goal.returns-then-are_twice
returns-then-are_twice c = let two : IsTwice c.args.x c.args.y = search rules in quotient_plain c.args.x c.args.y c.args.z two
