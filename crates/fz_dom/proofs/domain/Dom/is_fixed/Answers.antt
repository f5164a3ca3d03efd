use Rattle.std.proofs.Common.{arith}
use Rattle.std.proofs.lemmas.Bool.Decides.{nat_tests}
use Rattle.fz_dom.proofs.Kept.{seen, fixed_is}
use Rattle.fz_dom.proofs.domain.Dom.is_fixed.Goals as goal

pub returns-clause-one : goal.returns-clause-one
returns-clause-one c =
    let h = c.self.inside.head in
    let f = fixed_is h c.args.self.now (seen h c.self.inside.rest.items c.args.self.now c.self.invariant c.self.view_is) in
    (λ t. f.0 (grind (arith, nat_tests)), λ p. let e = f.1 p in grind (arith, nat_tests))
