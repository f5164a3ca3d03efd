use Rattle.std.proofs.Common.{◌≡◌, ◌∙◌, List, length, subst, sym, rules}
use Rattle.std.specs.List.{range_with_len}
use Rattle.std.proofs.lemmas.Result.{IfOk-weaker}
use Rattle.fz_spec.specs.Instance.{SearchPart}
use Rattle.fz_branch.specs.Plans.{IsPlanOf}
use Rattle.fz_branch.proofs.Whole.{last_whole}
use Rattle.fz_branch.proofs.plan.Plan.of_all.Goals as goal

pub returns-clause-whole : goal.returns-clause-whole
returns-clause-whole c =
    let m = c.args.model.now in
    let all : c.new.result.variables ≡ range_with_len 0 (length m.variables) = search rules in
    IfOk-weaker c.of_parts.result (λ (p : List SearchPart). p ≡ c.push.new.self.items) (IsPlanOf m)
    (λ p is. subst (IsPlanOf m) (sym (is ∙ c.in_ok-push.ensures.items)) (last_whole m c.in_ok-parts.parts.items c.new.result all)) c.of_parts.ensures
