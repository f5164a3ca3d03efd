use Rattle.std.proofs.Common.{◌∙◌, ap, List}
use Rattle.std.specs.Prelude.{slice_get}
use Rattle.fz_syntax.specs.declared.annotation.Annotation.{Annotation}
use Rattle.fz_language.specs.Rules as rules
use Rattle.fz_syntax.specs.Trees as trees
use Rattle.fz_resolve.specs.Meant.{environment_of}
use Rattle.fz_check.proofs.declared.wrong_at_variable.Goals as goal

pub returns : goal.returns
returns c =
    let v = trees.variable_item_of c.args.item.now in
    c.first_place.ensures (rules.output_array_places v.annotations) (rules.wrong_value (environment_of c.args.names.now) v.value_type v.value) (c.output_array_at-misplaced.ensures ∙ ap (λ (l : List Annotation). slice_get (rules.output_array_places (trees.annotations_of l)) 0) c.deref.ensures.value) c.wrong_value.ensures
