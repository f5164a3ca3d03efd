use Rattle.std.proofs.Common.{arith}
use Rattle.std.proofs.lemmas.Int.{ints}
use Rattle.std.proofs.lemmas.Bool.Decides.{nat_tests}
use Rattle.fz_dom.proofs.Kept.{seen}
use Rattle.fz_dom.proofs.Windows.{ends_order}
use Rattle.fz_dom.proofs.domain.Dom.is_narrow.Goals as goal

pub returns-clause-narrow : goal.returns-clause-narrow
returns-clause-narrow c =
    let d = c.args.self.now in
    let f = seen c.self.inside.head c.self.inside.rest.items d c.self.invariant c.self.view_is in
    let li = f.low_is in let hi = f.high_is in
    let o = ends_order d f.are_ranges in
    (λ t. grind (arith, ints, nat_tests), λ n. grind (arith, ints, nat_tests))
