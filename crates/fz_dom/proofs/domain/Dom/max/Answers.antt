use Rattle.std.proofs.Common.{◌≡◌, rules, w32, to_z, of_z}
use Rattle.fz_dom.specs.Shape.{IsDomain, greatest}
use Rattle.fz_dom.proofs.Ranges.{greatest_member, within_limits}
use Rattle.fz_dom.proofs.domain.Dom.max.Goals as goal

pub returns-clause-member : goal.returns-clause-member
returns-clause-member c =
    let d : IsDomain c.args.self.now = search rules in
    let e : to_z w32 (of_z w32 c.self.inside.head.high) ≡ greatest c.args.self.now = search rules in
    rw e (greatest_member c.args.self.now c.requires d.0).0

pub returns-clause-upper_bound : goal.returns-clause-upper_bound
returns-clause-upper_bound c =
    let d : IsDomain c.args.self.now = search rules in
    let e : to_z w32 (of_z w32 c.self.inside.head.high) ≡ greatest c.args.self.now = search rules in
    rw e (greatest_member c.args.self.now c.requires d.0).1

pub returns-clause-limits : goal.returns-clause-limits
returns-clause-limits c =
    let d : IsDomain c.args.self.now = search rules in
    let e : to_z w32 (of_z w32 c.self.inside.head.high) ≡ greatest c.args.self.now = search rules in
    rw e (within_limits c.args.self.now (greatest c.args.self.now) d.1 (greatest_member c.args.self.now c.requires d.0).0)
