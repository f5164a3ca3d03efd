use Rattle.std.proofs.Common.{◌≤◌, ◌<◌, length, rules}
use Rattle.fz_plain.proofs.Results.{pair_of}
use Rattle.fz_plain.proofs.equations.plain_equation.Goals as goal

pub returns-in-Min-len2 : goal.returns-in-Min-len2
returns-in-Min-len2 c =
    let least : 2 ≤ length c.args.operands.now = search rules in
    let most : length c.args.operands.now < 3 = search rules in
    rw (c.in-Min-len2.is-0, pair_of c.args.operands.now least most) c.plain_least.ensures

pub returns-in-Max-len2 : goal.returns-in-Max-len2
returns-in-Max-len2 c =
    let least : 2 ≤ length c.args.operands.now = search rules in
    let most : length c.args.operands.now < 3 = search rules in
    rw (c.in-Max-len2.is-0, pair_of c.args.operands.now least most) c.plain_greatest.ensures
