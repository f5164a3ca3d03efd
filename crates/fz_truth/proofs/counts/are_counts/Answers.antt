use Rattle.std.proofs.Common.{◌≡◌, pos, rules, SFits, w32, get_or, refl, sym, ◌∙◌, ap, to_z, of_z}
use Rattle.std.proofs.Math.Facts.{to_z-of_z}
use Rattle.fz_spec.specs.declared.term.Term.TheVariants.{Num}
use Rattle.fz_spec.specs.Constraints.{term_value, term_values}
use Rattle.fz_spec.specs.Truth.{count_of}
use Rattle.fz_truth.proofs.CountLaws.{as_many, first_count, next_count, none_behind}
use Rattle.fz_truth.proofs.ListLaws.{iff_through}
use Rattle.fz_truth.proofs.counts.are_counts.Goals as goal

pub returns-then-cover-counts : goal.returns-then-cover-counts
returns-then-cover-counts c = (λ t. cc, λ h. absurd (c.if-cover-counts.true (as_many (term_value c.args.values.now) (term_values c.args.values.now c.args.terms.now) c.args.cover.now c.args.counts.now h)))

pub returns-then-not-is_count : goal.returns-then-not-is_count
returns-then-not-is_count c =
    let a = term_value c.args.values.now in
    let xs = term_values c.args.values.now c.args.terms.now in
    let fits : SFits w32 c.value_of.result = search rules in
    let kept : to_z w32 (of_z w32 (get_or c.args.cover.now c.loop-i.i (pos 0))) ≡ get_or c.args.cover.now c.loop-i.i (pos 0) = search rules in (
      λ t. cc,
      λ h.
          let is = first_count a xs c.args.cover.now c.args.counts.now c.loop-i.i (pos 0) (Num (pos 0)) c.loop-i-test.true c.if-cover-counts.false (c.loop-i.invariant.0 h) in
          let t = c.if-not-is_count.ensures.1 (to_z-of_z fits ∙ c.value_of.ensures ∙ is ∙ ap (λ v. pos (count_of v xs)) (sym kept)) in
          cc,
    )

pub loop-i-preserved : goal.loop-i-preserved
loop-i-preserved c =
    let a = term_value c.args.values.now in
    let xs = term_values c.args.values.now c.args.terms.now in
    let fits : SFits w32 c.value_of.result = search rules in
    let kept : to_z w32 (of_z w32 (get_or c.args.cover.now c.loop-i.i (pos 0))) ≡ get_or c.args.cover.now c.loop-i.i (pos 0) = search rules in
    iff_through c.loop-i.invariant
    (next_count a xs c.args.cover.now c.args.counts.now c.loop-i.i (pos 0) (Num (pos 0)) c.loop-i-test.true c.if-cover-counts.false
    (sym c.value_of.ensures ∙ sym (to_z-of_z fits) ∙ c.if-not-is_count.ensures.0 refl ∙ ap (λ v. pos (count_of v xs)) kept))

pub returns : goal.returns
returns c = (λ t. c.loop-i.invariant.1 (none_behind (term_value c.args.values.now) (term_values c.args.values.now c.args.terms.now) c.args.cover.now c.args.counts.now c.loop-i.i c.loop-i-test.false c.if-cover-counts.false), λ h. refl)
