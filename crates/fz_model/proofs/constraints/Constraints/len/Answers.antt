use Rattle.std.proofs.Common.{arith, rules, ◌≡◌, ap, length, List, vec_len}
use Rattle.fz_spec.specs.Constraints.{Constraint}
use Rattle.fz_model.proofs.Numbered.{counted_behind}
use Rattle.fz_model.proofs.constraints.Constraints.len.Goals as goal

pub returns : goal.returns
returns c =
    let count = counted_behind c.self.inside.grouped c.self.inside.groups.items c.self.inside.written.items c.self.invariant.ends in
    let size = ap (λ (l : List Constraint). length l) c.self.view_is in
    let long : vec_len c.self.inside.written ≡ length c.self.inside.written.items = search rules in
    let len = c.len.ensures in
    omega (arith, count, size, long, len)
