use Rattle.fz_dom.proofs.Kept.{narrow_small}
use Rattle.fz_dom.proofs.domain.Dom.copy_from.Goals as goal

pub returns-in-Err-clause-narrow : goal.returns-in-Err-clause-narrow
returns-in-Err-clause-narrow c = λ n.
    let none = narrow_small c.other.inside.head c.other.inside.rest.items c.args.other.now c.other.invariant c.other.view_is n in
    rw c.in-Err.is at (c.write_over.ensures.succeeds none)
