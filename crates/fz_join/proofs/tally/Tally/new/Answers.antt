use Rattle.std.proofs.Common.{◌∙◌, ap, sym, subst, ◌++◌, List, ℕ}
use Rattle.std.proofs.lemmas.List.{take_all}
use Rattle.fz_tree.specs.declared.decision.Decision.{Decision}
use Rattle.fz_part.specs.Texts.{part_text}
use Rattle.fz_join.proofs.Tallying.{AreOnce, IsNext, old_twice, new_once, new_none}
use Rattle.fz_join.proofs.tally.Tally.new.Goals as goal

pub returns-then-is_some-clause-same : goal.returns-then-is_some-clause-same
returns-then-is_some-clause-same c =
    let next : IsNext c.loop-part.times c.args.parts.now c.loop-part.part-index c.part-item.result c.print.new.text.items c.in_ok-insert.field-0 = record {
      within = c.loop-part-test.true;
      is = c.part-item.is;
      text = c.in_ok-print.ensures ∙ ap (λ (l : List ℕ). l ++ part_text c.part-item.result) c.new-text.ensures.items;
      was = c.in_ok-insert.ensures.old;
      none = c.loop-part.invariant.none;
    } in
    old_twice c.loop-part.times c.args.parts.now c.loop-part.part-index c.part-item.result c.print.new.text.items c.in_ok-insert.field-0 next (sym c.is_some.ensures ∙ c.if-is_some.true)

pub loop-part-preserved : goal.loop-part-preserved
loop-part-preserved c =
    let next : IsNext c.loop-part.times c.args.parts.now c.loop-part.part-index c.part-item.result c.print.new.text.items c.in_ok-insert.field-0 = record {
      within = c.loop-part-test.true;
      is = c.part-item.is;
      text = c.in_ok-print.ensures ∙ ap (λ (l : List ℕ). l ++ part_text c.part-item.result) c.new-text.ensures.items;
      was = c.in_ok-insert.ensures.old;
      none = c.loop-part.invariant.none;
    } in
    record {
      none = new_none c.loop-part.times c.insert.new.self c.args.parts.now c.loop-part.part-index c.part-item.result c.print.new.text.items c.in_ok-insert.field-0 next c.in_ok-insert.ensures.updates;
      once = new_once c.loop-part.times c.args.parts.now c.loop-part.part-index c.part-item.result c.print.new.text.items c.in_ok-insert.field-0 next (sym c.is_some.ensures ∙ c.if-is_some.false) c.loop-part.invariant.once;
    }

pub returns-clause-different : goal.returns-clause-different
returns-clause-different c = subst (λ (l : List (List Decision)). AreOnce l l) (take_all c.loop-part.part-index c.args.parts.now c.loop-part-test.false) c.loop-part.invariant.once
