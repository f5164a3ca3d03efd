use Rattle.std.proofs.Common.{◌++◌, cond}
use Rattle.std.specs.Prelude.{flat_map}
use Rattle.fz_language.specs.declared.fault.RuleFault.TheVariants.{Unsupported, UnknownName, WrongType, WrongLengths, DeclaredTwice}
use Rattle.fz_language.specs.Numerals.{floats_in}
use Rattle.fz_language.specs.Rules as rules
use Rattle.fz_language.specs.Rules.{at_places}
use Rattle.fz_syntax.specs.Trees as trees
use Rattle.fz_resolve.specs.Meant.{environment_of}
use Rattle.fz_check.proofs.declared.array_fault.Goals as goal

pub returns : goal.returns
returns c =
    let env = environment_of c.args.names.now in
    let a = trees.array_item_of c.args.item.now in
    let unsupported = rules.bad_element_type a.variable a.value_type ++ rules.seventh_ranges a.annotations ++ flat_map floats_in a.list.elements in
    let unknown = flat_map (rules.unknown_in env) a.list.elements in
    let misplaced = rules.in_order (rules.output_var_places a.annotations) (cond a.variable (rules.malformed_output_array a.annotations) (rules.output_array_places a.annotations)) in
    let typed = rules.wrong_element env a.variable a.value_type a.list in
    let wrong = misplaced ++ typed in
    let long = rules.wrong_index_set a ++ rules.wrong_shape a in
    let twice = rules.declared_already env a.name in
    c.or_else-4.ensures (at_places Unsupported unsupported ++ at_places UnknownName unknown ++ at_places WrongType wrong ++ at_places WrongLengths long) (at_places DeclaredTwice twice)
    (c.or_else-3.ensures (at_places Unsupported unsupported ++ at_places UnknownName unknown ++ at_places WrongType wrong) (at_places WrongLengths long)
    (c.or_else-2.ensures (at_places Unsupported unsupported ++ at_places UnknownName unknown) (at_places WrongType wrong)
    (c.or_else.ensures (at_places Unsupported unsupported) (at_places UnknownName unknown) (c.fault_at-unsupported.ensures unsupported c.unsupported_array.ensures) (c.fault_at-unknown.ensures unknown c.unknown_element.ensures))
    (c.fault_at-typed.ensures wrong (c.first_place.ensures misplaced typed c.misplaced_at_array-misplaced.ensures c.requires.wrong))) (c.fault_at-long.ensures long c.wrong_length_at.ensures)) (c.fault_at-twice.ensures twice c.declared_already.ensures)
