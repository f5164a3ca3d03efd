use Rattle.std.proofs.Common.{ap, length, arith}
use Rattle.std.proofs.lemmas.Bool.{false≢true}
use Rattle.fz_dom.proofs.Kept.{narrow_small}
use Rattle.fz_dom.proofs.domain.Dom.copy.Goals as goal

pub returns-in_err-rest-clause-narrow : goal.returns-in_err-rest-clause-narrow
returns-in_err-rest-clause-narrow c = λ n.
    let z = narrow_small c.self.inside.head c.self.inside.rest.items c.args.self.now c.self.invariant c.self.view_is n in
    let e = ap length c.as_slice.ensures in
    absurd (false≢true (c.in_err-rest.ensures.succeeds (omega arith)))
