use Rattle.std.proofs.Common.{◌≡◌, ◌∙◌, sym, subst, ap, rules, List, [], ◌∷◌, length}
use Rattle.std.specs.Prelude.{ℤ}
use Rattle.fz_refutes.specs.Texts.{IsHead}
use Rattle.fz_refutes.specs.Makers.{HasNoBetter}
use Rattle.fz_refutes.proofs.Soundness.{declared_sets}
use Rattle.fz_refutes.proofs.Within.{declared_part}
use Rattle.fz_maker.specs.Making.{AreBoxes}
use Rattle.fz_maker.proofs.maker.Maker.new.Goals as goal

pub invariant_of-result : goal.invariant_of-result
invariant_of-result c =
    let m = c.args.model.now in
    let room : length c.in_ok-values.values.items ≡ length m.variables = search rules in
    record {
      is_head = subst (IsHead m) (sym c.in_ok-head.ensures) c.requires.is_head;
      best = subst (HasNoBetter m) (sym c.in_ok-head.ensures) c.requires.best;
      boxes = subst (AreBoxes m.variables) (sym (c.new.ensures ∙ ap (λ (box : List (List (ℤ × ℤ))). box ∷ []) c.in_ok-area.ensures)) (record { part = declared_part m.variables; sets = declared_sets m.variables c.variables.ensures.kept.sets }, tt);
      room = room;
    }
