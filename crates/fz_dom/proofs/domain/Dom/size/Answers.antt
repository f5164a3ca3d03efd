use Rattle.std.proofs.Common.{◌≡◌, rules}
use Rattle.fz_sets.specs.Sets.{set_size}
use Rattle.fz_dom.specs.Shape.{IsDomain}
use Rattle.fz_dom.proofs.Ranges.{size_below}
use Rattle.fz_dom.proofs.domain.Dom.size.Goals as goal

pub returns-clause-bound : goal.returns-clause-bound
returns-clause-bound c =
    let d : IsDomain c.args.self.now = search rules in
    let e : c.from.result ≡ set_size c.args.self.now = search rules in
    rw e (size_below c.args.self.now d.0 d.1)
