use Rattle.std.proofs.Common.{ap, sym, ◌∙◌, Some, None}
use Rattle.fz_language.specs.Annotations as said
use Rattle.fz_syntax.specs.Trees as trees
use Rattle.fz_resolve.proofs.AnnotationLaws.{list_joined}
use Rattle.fz_resolve.proofs.annotations.arguments_of.Goals as goal

pub returns-in-Some : goal.returns-in-Some
returns-in-Some c =
    ap trees.trees_of c.deref.ensures.value ∙ sym (list_joined (trees.trees_of c.in-Some.arguments.items))
    ∙ ap
    (λ o. said.arguments_of (record { name = trees.name_of c.args.annotation.now.name; arguments = elim o [ Some arguments ↦ Some (trees.arguments_of arguments.items) | None ↦ None ] }))
    (sym c.in-Some.is)
