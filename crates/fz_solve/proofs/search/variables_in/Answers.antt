use Rattle.std.proofs.Common.{◌∙◌, ap, sym, map, option_map}
use Rattle.fz_language.specs.Numerals.{all_of}
use Rattle.fz_language.specs.Search as searches
use Rattle.fz_syntax.specs.Trees.{trees_of, nested_of}
use Rattle.fz_resolve.specs.Meant.{environment_of}
use Rattle.fz_resolve.proofs.AnnotationLaws.{list_joined}
use Rattle.fz_solve.proofs.search.variables_in.Goals as goal

pub returns-in_ok-members-in-Brackets : goal.returns-in_ok-members-in-Brackets
returns-in_ok-members-in-Brackets c =
    let env = environment_of c.args.names.now in
    c.in_ok-members-in-Brackets.ensures ∙ ap (λ l. option_map searches.joined (all_of (map (searches.member env) l))) (sym (list_joined (trees_of c.in-Brackets.arguments.now)))
    ∙ ap (λ n. searches.variables_in env (nested_of n)) (sym c.in-Brackets.is)
