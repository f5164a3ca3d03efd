use Rattle.std.proofs.Common.{◌∙◌, sym, ap, Some, option_map}
use Rattle.fz_syntax.specs.Trees as trees
use Rattle.fz_resolve.specs.Meant.{environment_of, meant}
use Rattle.fz_check.proofs.PlaceLaws.{parameter_right, parameter_wrong}
use Rattle.fz_check.proofs.declared.wrong_parameter.Goals as goal

pub returns-in-Some : goal.returns-in-Some
returns-in-Some c =
    let p = trees.parameter_item_of c.args.item.now in
    parameter_right (environment_of c.args._names.now) p.value_type p.value (meant c.in-Some.field-0) (ap (option_map meant) (sym c.in-Some.is) ∙ c.requires)

pub returns-in-None : goal.returns-in-None
returns-in-None c =
    let p = trees.parameter_item_of c.args.item.now in
    ap Some c.at.ensures ∙ parameter_wrong (environment_of c.args._names.now) p.value_type p.value (ap (option_map meant) (sym c.in-None.is) ∙ c.requires)
