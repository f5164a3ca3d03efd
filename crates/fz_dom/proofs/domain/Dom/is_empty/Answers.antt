use Rattle.std.proofs.Common.{◌≡◌, rules, arith}
use Rattle.std.proofs.lemmas.Bool.Decides.{nat_tests}
use Rattle.fz_sets.specs.Sets.{set_size}
use Rattle.fz_dom.specs.Shape.{IsDomain}
use Rattle.fz_dom.proofs.Ranges.{none_of_size}
use Rattle.fz_dom.proofs.domain.Dom.is_empty.Goals as goal

pub returns-clause-no_member : goal.returns-clause-no_member
returns-clause-no_member c =
    let d : IsDomain c.args.self.now = search rules in
    let e : c.self.inside.head.size ≡ set_size c.args.self.now = search rules in
    let n = none_of_size c.args.self.now d.0 in
    (λ t. n.0 (grind (arith, nat_tests)), λ f. let z = n.1 f in grind (arith, nat_tests))
