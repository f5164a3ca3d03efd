use Rattle.std.proofs.Common.{[], ◌∷◌, ap, ◌∙◌}
use Rattle.fz_language.specs.Annotations.{bracketed}
use Rattle.fz_syntax.specs.Trees.{trees_of, nested_of}
use Rattle.fz_resolve.proofs.AnnotationLaws.{list_joined}
use Rattle.fz_resolve.proofs.annotations.elements_of.Goals as goal

pub returns-in-Brackets : goal.returns-in-Brackets
returns-in-Brackets c = ap (λ n. bracketed (nested_of n ∷ [])) c.in-Brackets.is ∙ list_joined (trees_of c.in-Brackets.arguments.now)
