use Rattle.std.proofs.Common.{rules}
use Rattle.fz_plain.specs.Plain.{IsTwice}
use Rattle.fz_plain.proofs.Results.{least_twice}
use Rattle.fz_plain.proofs.operands.plain_least.Goals as goal

pub returns-then-are_twice : goal.returns-then-are_twice
returns-then-are_twice c = let two : IsTwice c.args.x c.args.y = search rules in least_twice c.args.x c.args.y c.args.z two
