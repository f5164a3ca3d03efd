use Rattle.std.proofs.Common.{◌∙◌, ap, List}
use Rattle.std.specs.Prelude.{flat_map}
use Rattle.fz_model.specs.Arguments.{argument_of}
use Rattle.fz_spec.specs.declared.term.Term.{Term}
use Rattle.fz_refutes.specs.Refuted.{variable_of}
use Rattle.fz_cert.proofs.Fixing.{all_variables}
use Rattle.fz_cert.proofs.variables.variables_of.Goals as goal

pub returns : goal.returns
returns c = all_variables argument_of c.arguments.result.now c.args.constraint.now.arguments c.in_ok-terms.terms.items c.in_ok-variables.variables.items c.arguments.ensures c.in_ok-terms.ensures
    (c.in_ok-variables.ensures ∙ ap (λ (ts : List Term). flat_map variable_of ts) c.deref.ensures.value)
