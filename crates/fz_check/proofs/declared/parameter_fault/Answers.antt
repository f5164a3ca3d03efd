use Rattle.std.proofs.Common.{◌++◌}
use Rattle.fz_language.specs.declared.fault.RuleFault.TheVariants.{Unsupported, UnknownName, WrongType, DeclaredTwice}
use Rattle.fz_language.specs.Numerals.{floats_in}
use Rattle.fz_language.specs.Trees.{Scalar}
use Rattle.fz_language.specs.Entries.{resolve}
use Rattle.fz_language.specs.Rules as rules
use Rattle.fz_language.specs.Rules.{at_places}
use Rattle.fz_syntax.specs.Trees as trees
use Rattle.fz_resolve.specs.Meant.{environment_of}
use Rattle.fz_check.proofs.declared.parameter_fault.Goals as goal

pub returns : goal.returns
returns c =
    let env = environment_of c.args.names.now in
    let p = trees.parameter_item_of c.args.item.now in
    let unsupported = rules.bad_parameter_type p.value_type ++ rules.seventh_ranges p.annotations ++ floats_in p.value in
    let unknown = rules.unknown_in env p.value in
    let misplaced = rules.in_order (rules.output_var_places p.annotations) (rules.output_array_places p.annotations) in
    let typed = rules.wrong_place (resolve env (rules.value_asked p.value_type) (Scalar p.value)) in
    let wrong = misplaced ++ typed in
    let twice = rules.declared_already env p.name in
    c.or_else-3.ensures (at_places Unsupported unsupported ++ at_places UnknownName unknown ++ at_places WrongType wrong) (at_places DeclaredTwice twice)
    (c.or_else-2.ensures (at_places Unsupported unsupported ++ at_places UnknownName unknown) (at_places WrongType wrong)
    (c.or_else.ensures (at_places Unsupported unsupported) (at_places UnknownName unknown) (c.fault_at-unsupported.ensures unsupported c.unsupported_parameter.ensures) (c.fault_at-unknown.ensures unknown c.unknown.ensures))
    (c.fault_at-wrong.ensures wrong (c.first_place.ensures misplaced typed c.misplaced_at_parameter-misplaced.ensures c.wrong_parameter.ensures))) (c.fault_at-twice.ensures twice c.declared_already.ensures)
