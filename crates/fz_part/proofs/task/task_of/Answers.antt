use Rattle.std.proofs.Common.{◌∙◌, ◌<◌, ◌≤◌, List, ap, arith, length, subst, sym}
use Rattle.fz_spec.specs.declared.limits.TheConstants.{CONSTRAINT_LIMIT}
use Rattle.fz_spec.specs.Constraints.{Constraint}
use Rattle.fz_tree.specs.declared.decision.Decision.{Decision}
use Rattle.fz_part.specs.Parts.{IsPartOf, task_of}
use Rattle.fz_part.proofs.Tasks.{tasked, tasked_is_model}
use Rattle.fz_part.proofs.task.task_of.Goals as goal

pub constraints_of-requires : goal.constraints_of-requires
constraints_of-requires c = subst (λ (p : List Decision). IsPartOf c.args.model.now p) (sym c.decisions.ensures) c.requires.of_model

pub returns-then-len-gt-CONSTRAINT_LIMIT-clause-many : goal.returns-then-len-gt-CONSTRAINT_LIMIT-clause-many
returns-then-len-gt-CONSTRAINT_LIMIT-clause-many c =
    let are = c.in_ok-constraints.ensures ∙ ap (λ (p : List Decision). (task_of c.args.model.now p c.args.bound).constraints) c.decisions.ensures in
    let more : CONSTRAINT_LIMIT < length c.in_ok-constraints.constraints = omega (arith, c.len.ensures, c.if-len-gt-CONSTRAINT_LIMIT.true) in
    subst (λ (cs : List Constraint). CONSTRAINT_LIMIT < length cs) are more

pub new-requires : goal.new-requires
new-requires c =
    let are = c.in_ok-constraints.ensures ∙ ap (λ (p : List Decision). (task_of c.args.model.now p c.args.bound).constraints) c.decisions.ensures in
    let few : length c.in_ok-constraints.constraints ≤ CONSTRAINT_LIMIT = omega (arith, c.len.ensures, c.if-len-gt-CONSTRAINT_LIMIT.false) in
    tasked_is_model c.args.model.now _ c.args.part.now c.args.bound
    (tasked c.args.model.now c.args.part.now c.args.bound _ _ _ _ _ (c.in_ok-variables.ensures ∙ c.variables.ensures.variables) are c.goal-goal.ensures.goal (c.in_ok-outputs.ensures ∙ c.outputs.ensures.outputs) (c.in_ok-search.ensures ∙ c.search.ensures.search))
    c.variables.ensures.kept c.requires.of_model c.requires.within few

pub returns-clause-task : goal.returns-clause-task
returns-clause-task c =
    c.new.ensures ∙ tasked c.args.model.now c.args.part.now c.args.bound _ _ _ _ _ (c.in_ok-variables.ensures ∙ c.variables.ensures.variables)
    (c.in_ok-constraints.ensures ∙ ap (λ (p : List Decision). (task_of c.args.model.now p c.args.bound).constraints) c.decisions.ensures) c.goal-goal.ensures.goal (c.in_ok-outputs.ensures ∙ c.outputs.ensures.outputs) (c.in_ok-search.ensures ∙ c.search.ensures.search)
