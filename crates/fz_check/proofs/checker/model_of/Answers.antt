use Rattle.std.proofs.Common.{◌∙◌, ap, sym, subst, List}
use Rattle.fz_spec.specs.Instance.{Instance}
use Rattle.fz_language.specs.Models as models
use Rattle.fz_language.specs.Trees as lang
use Rattle.fz_language.specs.Search.{search_of}
use Rattle.fz_model.specs.Kept.{IsModel}
use Rattle.fz_syntax.specs.Trees as trees
use Rattle.fz_syntax.specs.declared.annotation.Annotation.{Annotation}
use Rattle.fz_resolve.specs.Meant.{environment_of}
use Rattle.fz_check.proofs.CheckLaws.{model_is}
use Rattle.fz_check.proofs.ModelFits.{models_fit}
use Rattle.fz_check.proofs.checker.model_of.Goals as goal

pub new-requires : goal.new-requires
new-requires c =
    let p = c.requires.0 in
    let of = c.requires.1 in
    let env = environment_of c.args.draft.names in
    let found = c.in_ok-parts.ensures ∙ ap (λ (l : List Annotation). search_of env (trees.annotations_of l)) c.deref.ensures.value ∙ ap (λ (s : lang.SolveItem). search_of env s.annotations) (sym of.solves) in
    let aim = c.goal-goal.ensures ∙ ap (models.goal_of env) (sym of.solves) in
    let e = model_is p c.args.draft c.goal-goal.result c.in_ok-parts.parts.items of.ahead aim found in
    subst (λ (m : Instance). IsModel m) e (models_fit p of.fits of.keeps)

pub returns : goal.returns
returns c = λ p of.
    let env = environment_of c.args.draft.names in
    let found = c.in_ok-parts.ensures ∙ ap (λ (l : List Annotation). search_of env (trees.annotations_of l)) c.deref.ensures.value ∙ ap (λ (s : lang.SolveItem). search_of env s.annotations) (sym of.solves) in
    let aim = c.goal-goal.ensures ∙ ap (models.goal_of env) (sym of.solves) in
    c.new.ensures ∙ sym (model_is p c.args.draft c.goal-goal.result c.in_ok-parts.parts.items of.ahead aim found)
