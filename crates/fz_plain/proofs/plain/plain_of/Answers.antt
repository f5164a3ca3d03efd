use Rattle.std.proofs.Common.{◌≡◌, rules, to_z, of_z, w32}
use Rattle.fz_plain.proofs.plain.plain_of.Goals as goal

pub returns-in-SumIf : goal.returns-in-SumIf
returns-in-SumIf c =
    let read : to_z w32 (of_z w32 c.in-SumIf.number) ≡ c.in-SumIf.number = search rules in
    rw c.in-SumIf.is (rw read at c.plain_sum_if.ensures)
