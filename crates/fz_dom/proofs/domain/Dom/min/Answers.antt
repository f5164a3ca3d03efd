use Rattle.std.proofs.Common.{◌≡◌, rules, w32, to_z, of_z}
use Rattle.fz_dom.specs.Shape.{IsDomain, least}
use Rattle.fz_dom.proofs.Ranges.{least_member}
use Rattle.fz_dom.proofs.domain.Dom.min.Goals as goal

pub returns-clause-lower_bound : goal.returns-clause-lower_bound
returns-clause-lower_bound c =
    let d : IsDomain c.args.self.now = search rules in
    let e : to_z w32 (of_z w32 c.self.inside.head.low) ≡ least c.args.self.now = search rules in
    rw e (least_member c.args.self.now c.requires d.0).1
