use Rattle.std.proofs.Common.{refl, ap, length, ◌∙◌}
use Rattle.fz_shown.proofs.Telling.{is_all_shown, marks_of, written}
use Rattle.fz_shown.proofs.shown.shows_all.Goals as goal

pub returns : goal.returns
returns c =
    let items = c.in_ok-marks.marks.items in
    is_all_shown _ refl refl c.args.model.now (length c.variables.result.now) c.outputs.result.now items c.mark_outputs.new.marks c.deref.result.now c.contains.result (ap length c.variables.ensures.variables) c.outputs.ensures.outputs
    (c.in_ok-marks.ensures.items_if_clones_equal (λ y is. is)) (c.mark_outputs.ensures ∙ ap (marks_of c.outputs.result.now) c.deref_mut.ensures.value)
    (written c.mark_outputs.new.marks c.deref_mut.result.now items c.deref.result.now c.in_ok-marks.marks.len c.deref_mut.ensures.value c.mark_outputs.auto.marks c.in_ok-marks.marks.ok.0 c.deref.ensures.value)
    c.contains.ensures.value
