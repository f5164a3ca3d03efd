use Rattle.std.proofs.Common.{◌++◌}
use Rattle.fz_language.specs.declared.fault.RuleFault.TheVariants.{Unsupported, UnknownName, WrongType, DeclaredTwice}
use Rattle.fz_language.specs.Rules as rules
use Rattle.fz_language.specs.Rules.{at_places}
use Rattle.fz_syntax.specs.Trees as trees
use Rattle.fz_resolve.specs.Meant.{environment_of}
use Rattle.fz_check.proofs.declared.variable_fault.Goals as goal

pub returns : goal.returns
returns c =
    let env = environment_of c.args.names.now in
    let v = trees.variable_item_of c.args.item.now in
    let unsupported = rules.bad_variable_type v.value_type ++ rules.seventh_ranges v.annotations ++ rules.floats_of_value v.value in
    let unknown = rules.unknown_of_value env v.value in
    let wrong = rules.output_array_places v.annotations ++ rules.wrong_value env v.value_type v.value in
    let twice = rules.declared_already env v.name in
    c.or_else-3.ensures (at_places Unsupported unsupported ++ at_places UnknownName unknown ++ at_places WrongType wrong) (at_places DeclaredTwice twice)
    (c.or_else-2.ensures (at_places Unsupported unsupported ++ at_places UnknownName unknown) (at_places WrongType wrong)
    (c.or_else.ensures (at_places Unsupported unsupported) (at_places UnknownName unknown) (c.fault_at-unsupported.ensures unsupported c.unsupported_variable.ensures) (c.fault_at-unknown.ensures unknown c.unknown_in_value.ensures))
    (c.fault_at-wrong.ensures wrong c.wrong_at_variable.ensures)) (c.fault_at-twice.ensures twice c.declared_already.ensures)
