use Rattle.std.proofs.Common.{rules}
use Rattle.fz_plain.specs.Plain.{IsTwice}
use Rattle.fz_plain.proofs.Results.{remainder_never, remainder_plain}
use Rattle.fz_plain.proofs.equations.plain_remainder.Goals as goal

pub returns-then-are_twice : goal.returns-then-are_twice
returns-then-are_twice c =
    let two : IsTwice c.args.y c.args.z = search rules in
    rw c.never.ensures (remainder_never c.args.x c.args.y c.args.z two)

pub returns-then-are_twice-2 : goal.returns-then-are_twice-2
returns-then-are_twice-2 c = let two : IsTwice c.args.x c.args.y = search rules in remainder_plain c.args.x c.args.y c.args.z two
