use Rattle.std.proofs.Common.{◌≡◌, rules, to_z, of_z, w32}
use Rattle.fz_column.specs.Packed.{ArePacked}
use Rattle.fz_column.proofs.column.Column.has_all.Goals as goal

pub returns-in-Some : goal.returns-in-Some
returns-in-Some c = λ done n above below.
    let are : ArePacked c.args.self.now c.in-Some.packed.now = c.in-Some.ensures in
    let kept_low : to_z w32 (of_z w32 c.args.low) ≡ c.args.low = search rules in
    let kept_high : to_z w32 (of_z w32 c.args.high) ≡ c.args.high = search rules in
    let all = rw (kept_low, kept_high) at c.has_all.ensures in
    let w = all done n above below in
    (w.0, (are.rows n w.0).0 w.1, w.2)
