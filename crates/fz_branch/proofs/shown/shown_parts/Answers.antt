use Rattle.std.proofs.Common.{◌≡◌, ◌∙◌, ◌<◌, ◌++◌, ◌∷◌, [], List, ap, sym, subst, length, map, take}
use Rattle.std.specs.List.{AllByRecursion, filter}
use Rattle.std.proofs.lemmas.List.{map_more}
use Rattle.fz_spec.specs.Instance.{SearchPart}
use Rattle.fz_model.specs.Kept.{IsSearchPart}
use Rattle.fz_sets.proofs.Lists.{all_read}
use Rattle.fz_tree.specs.Rows.{is_shown}
use Rattle.fz_branch.specs.Plans.{only_shown}
use Rattle.fz_branch.proofs.shown.shown_parts.Goals as goal

pub loop-part-preserved : goal.loop-part-preserved
loop-part-preserved c =
    let of_model : AllByRecursion (IsSearchPart c.args.model.now.variables) c.search-parts.result.now
    = subst (AllByRecursion (IsSearchPart c.args.model.now.variables)) (sym c.search-parts.ensures.search) c.search-parts.ensures.kept.searched in
    let of_part : IsSearchPart c.args.model.now.variables c.part-item.result
    = all_read (IsSearchPart c.args.model.now.variables) c.search-parts.result.now c.loop-part.part-index c.part-item.result c.loop-part-test.true c.part-item.is of_model in
    let within : AllByRecursion (λ v. v < length c.args.model.now.variables) c.variables.result.now
    = subst (AllByRecursion (λ v. v < length c.args.model.now.variables)) (sym c.variables.ensures) of_part.1 in
    let cut : c.own.result ≡ filter (is_shown c.args.model.now) c.part-item.result.variables
    = c.own.ensures ∙ c.in_ok-variables.ensures c.args.model.now c.requires within ∙ ap (filter (is_shown c.args.model.now)) c.variables.ensures in
    let made : c.new.result ≡ only_shown c.args.model.now c.part-item.result
    = c.new.ensures ∙ (λ i. record { variables = cut i; pick = c.pick.ensures i; value = c.value.ensures i }) in
    let done : List SearchPart = map (only_shown c.args.model.now) (take c.loop-part.part-index c.search-parts.result.now) in
    c.in_ok-push.ensures.items ∙ ap (λ (l : List SearchPart). l ++ c.new.result ∷ []) c.loop-part.invariant ∙ ap (λ (p : SearchPart). done ++ p ∷ []) (made ∙ ap (only_shown c.args.model.now) c.part-item.is)
    ∙ sym (map_more (only_shown c.args.model.now) c.search-parts.result.now c.loop-part.part-index c.part-item.result c.loop-part-test.true)
