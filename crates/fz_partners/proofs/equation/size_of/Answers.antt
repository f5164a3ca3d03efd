use Rattle.std.proofs.Common.{◌<◌, arith, rules}
use Rattle.std.specs.Prelude.{length}
use Rattle.fz_sets.proofs.Sizes.{some_size}
use Rattle.fz_partners.proofs.equation.size_of.Goals as goal

pub returns-in-Var-clause-some : goal.returns-in-Var-clause-some
returns-in-Var-clause-some c =
    let some : 0 < length c.dom.result.now = rw c.dom.ensures.dom ((c.dom.ensures.store.domains c.in-Var.variable (search rules)).1) in
    let size = some_size c.dom.result.now some in
    let is = c.size.ensures.size in
    omega (arith, size, is)
