use Rattle.std.proofs.Common.{◌∙◌, sym, ap}
use Rattle.fz_model.specs.Groups.{constraint_at}
use Rattle.fz_cert.proofs.Calls.{there}
use Rattle.fz_cert.proofs.refute.refutes.Goals as goal

pub returns-in-Written-clause-refutes : goal.returns-in-Written-clause-refutes
returns-in-Written-clause-refutes c =
    let at = there c.constraints.result.now c.args.model.now.constraints c.args.constraint (constraint_at c.at.result) c.in-Written.constraint.now c.constraints.ensures.constraints c.at.ensures (ap constraint_at c.in-Written.is) in
    rw at c.is_refuted.ensures.refutes

pub returns-in_ok-constraint-in-Element-clause-refutes : goal.returns-in_ok-constraint-in-Element-clause-refutes
returns-in_ok-constraint-in-Element-clause-refutes c =
    let at = there c.constraints.result.now c.args.model.now.constraints c.args.constraint (constraint_at c.at.result) c.in_ok-constraint-in-Element.constraint c.constraints.ensures.constraints c.at.ensures (ap constraint_at c.in-Element.is ∙ sym c.in_ok-constraint-in-Element.ensures) in
    rw at c.is_refuted-in-Element.ensures.refutes
