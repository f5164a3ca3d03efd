use Rattle.std.proofs.Common.{◌≡◌, get_or, refl, rules, pos, ◌∙◌, sym}
use Rattle.fz_spec.specs.declared.term.Term.TheVariants.{Num}
use Rattle.fz_spec.specs.Constraints.{term_value}
use Rattle.fz_truth.proofs.ListLaws.{row_more, row_differs}
use mir.Val.{to_z, of_z}
use Rattle.std.proofs.Common.{w32}
use Rattle.fz_truth.proofs.table.is_row.Goals as goal

pub returns-then-not-has_value : goal.returns-then-not-has_value
returns-then-not-has_value c =
    let kept : to_z w32 (of_z w32 (get_or c.args.row.now c.loop-i.i (pos 0))) ≡ get_or c.args.row.now c.loop-i.i (pos 0) = search rules in (
      λ t. cc,
      λ e. absurd
          (row_differs (term_value c.args.values.now) c.args.terms.now c.args.row.now c.loop-i.i (Num (pos 0)) (pos 0) c.loop-i-test.true c.if-terms-row.false
          (λ d. let t = c.if-not-has_value.ensures.1 (d ∙ sym kept) in cc) e),
    )

pub loop-i-preserved : goal.loop-i-preserved
loop-i-preserved c =
    let kept : to_z w32 (of_z w32 (get_or c.args.row.now c.loop-i.i (pos 0))) ≡ get_or c.args.row.now c.loop-i.i (pos 0) = search rules in
    row_more (term_value c.args.values.now) c.args.terms.now c.args.row.now c.loop-i.i (Num (pos 0)) (pos 0) c.loop-i-test.true c.if-terms-row.false (c.if-not-has_value.ensures.0 refl ∙ kept) c.loop-i.invariant
