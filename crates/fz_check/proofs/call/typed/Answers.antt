use Rattle.std.proofs.Common.{◌∙◌, Bool, ap, ap₂, sym, map, option_map, List}
use Rattle.fz_spec.specs.Constraints as meaning
use Rattle.fz_spec.specs.Constraints.{fit_lengths}
use Rattle.fz_language.specs.Annotations.{asks_whole}
use Rattle.fz_syntax.specs.Trees as trees
use Rattle.fz_syntax.specs.declared.annotation.Annotation.{Annotation}
use Rattle.fz_model.specs.Arguments.{argument_of}
use Rattle.fz_model.specs.declared.constraint.Argument.{Argument}
use Rattle.fz_resolve.specs.Meant.{fault_of}
use Rattle.fz_check.specs.Rows.{row_of}
use Rattle.fz_check.proofs.CallLaws.{right_typed, wrong_typed}
use Rattle.fz_check.proofs.call.typed.Goals as goal

pub returns-then-fit : goal.returns-then-fit
returns-then-fit c =
    let fit = sym (c.in_ok-fit.ensures ∙ ap (λ (l : List Argument). fit_lengths c.args.row.now.3 (map argument_of l)) c.deref.ensures.value) in
    let whole = c.asks_whole.ensures ∙ ap (λ (l : List Annotation). asks_whole (trees.annotations_of l)) c.deref-then-fit.ensures.value in
    let made = c.with_whole.ensures ∙ ap₂ (λ (m : meaning.Constraint) (w : Bool). record m { whole = w }) c.new-constraint.ensures whole in
    λ others e. (right_typed others (row_of c.args.row.now) c.args.item.now.name.at (map argument_of c.args.arguments.items) (sym e ∙ ap (option_map fault_of) c.in_default.is) (fit ∙ c.if-fit.true), made)

pub returns : goal.returns
returns c =
    let fit = sym (c.in_ok-fit.ensures ∙ ap (λ (l : List Argument). fit_lengths c.args.row.now.3 (map argument_of l)) c.deref.ensures.value) in
    λ others e. wrong_typed others (row_of c.args.row.now) c.args.item.now.name.at (map argument_of c.args.arguments.items) (sym e ∙ ap (option_map fault_of) c.in_default.is) (fit ∙ c.if-fit.false)
