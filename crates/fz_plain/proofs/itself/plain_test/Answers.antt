use Rattle.std.proofs.Common.{rules}
use Rattle.fz_plain.specs.Plain.{IsTwice}
use Rattle.fz_plain.proofs.Plainness.{itself_told}
use Rattle.fz_plain.proofs.itself.plain_test.Goals as goal

pub returns-then-are_twice : goal.returns-then-are_twice
returns-then-are_twice c =
    let two : IsTwice c.args.x c.args.y = search rules in
    rw c.told_by.ensures (itself_told c.holds_of_same.result c.args.relation c.args.x c.args.y c.args.told two c.holds_of_same.ensures)
