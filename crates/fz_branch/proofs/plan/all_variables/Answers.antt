use Rattle.std.proofs.Common.{ap, sym, ◌∙◌, ◌++◌, ◌∷◌, [], List, ℕ}
use Rattle.fz_branch.proofs.Numbers.{range_more}
use Rattle.fz_branch.proofs.plan.all_variables.Goals as goal

pub loop-variable-preserved : goal.loop-variable-preserved
loop-variable-preserved c =
    c.in_ok-push.ensures.items ∙ ap (λ (l : List ℕ). l ++ c.loop-variable.variable ∷ []) c.loop-variable.invariant ∙ sym (range_more c.loop-variable.variable)
