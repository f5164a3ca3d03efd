use Rattle.std.proofs.Common.{◌∙◌, ◌+◌, ◌∷◌, [], sym, ap, subst, refl, arith, length, length-append}
use Rattle.std.proofs.lemmas.List.Sums.{count_by-le-length}
use Rattle.fz_sets.specs.Sets.{AreRanges}
use Rattle.fz_refutes.specs.Boxes.{AreSets}
use Rattle.fz_refutes.proofs.Insides.{declared_pushed, sets_more}
use Rattle.fz_cert.specs.Areas.{has_no_number}
use Rattle.fz_cert.proofs.Emptying.{full_counted, empty_counted}
use Rattle.fz_cert.proofs.area.Area.declared.Goals.{then-is_empty, else-is_empty}
use Rattle.fz_cert.proofs.area.Area.declared.Goals as goal

pub overflow_add-empty : goal.overflow_add-empty
overflow_add-empty c =
    let few = count_by-le-length has_no_number c.loop-variable.sets.items in
    omega (arith, few, c.loop-variable.invariant.count, c.loop-variable.invariant.length, c.loop-variable-test.true)

pub loop-variable-preserved : goal.loop-variable-preserved
loop-variable-preserved c =
    let box = c.loop-variable.sets.items in
    let new = c.push.new.self.items in
    let d = c.in_ok-copy.field-0 in
    let same = c.in_ok-copy.ensures.same in
    let inv = c.loop-variable.invariant in
    record {
      same = declared_pushed c.variables-variables.result.now c.loop-variable.variable-index c.variable-item.result box new d
          c.in_ok-push.ensures.items inv.same (same ∙ c.set-set.ensures.set) c.loop-variable-test.true c.variable-item.is;
      are = subst AreSets (sym c.in_ok-push.ensures.items) (sets_more box d inv.are (subst AreRanges (sym same) c.copy.ensures.domain.0));
      count = elim c.if-is_empty.branch [
        | then-is_empty w ↦ empty_counted box new d c.loop-variable.empty c.if-is_empty.empty c.in_ok-push.ensures.items inv.count w.empty-is
            (ap length same ∙ w.if-is_empty.ensures.empty.0 refl)
        | else-is_empty w ↦ full_counted box new d c.loop-variable.empty c.if-is_empty.empty c.in_ok-push.ensures.items inv.count w.empty-is
            (λ e. let t = w.if-is_empty.ensures.empty.1 (sym (ap length same) ∙ e) in cc (t))
      ];
      length = ap length c.in_ok-push.ensures.items ∙ length-append box (d ∷ []) ∙ ap (λ n. n + 1) inv.length;
    }
