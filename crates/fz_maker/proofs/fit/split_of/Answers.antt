use Rattle.std.proofs.Common.{◌≡◌, ◌∙◌, ap, rules, arith, List, get_or}
use Rattle.std.specs.Prelude.{ℤ, pos}
use Rattle.std.proofs.Math.Facts.{to_z-of_z}
use mir.Val.{SFits}
use mir.Syntax.{w32}
use Rattle.fz_sets.specs.Sets.{single}
use Rattle.fz_sets.proofs.Lists.{same_at}
use Rattle.fz_refutes.specs.Boxes.{set_at}
use Rattle.fz_refutes.specs.Trees.{middle}
use Rattle.fz_refutes.proofs.Lone.{some_is_open}
use Rattle.fz_refutes.proofs.Within.{part_length}
use Rattle.fz_maker.proofs.fit.split_of.Goals as goal

pub picked-variable-requires-clause-length : goal.picked-variable-requires-clause-length
picked-variable-requires-clause-length c = part_length c.args.model.now.variables c.args.area.now c.requires.part

pub picked-variable-requires-clause-some : goal.picked-variable-requires-clause-some
picked-variable-requires-clause-some c =
    some_is_open c.args.model.now c.args.head.now c.args.area.now c.requires.is_head c.requires.best c.requires.part c.sets.ensures.kept c.requires.full c.requires.unrefuted c.requires.hope

pub returns : goal.returns
returns c =
    let box = c.args.area.now in
    let v = c.picked-variable.result in
    let fits : SFits w32 c.middle-number.result = search rules in
    let part = part_length c.args.model.now.variables box c.requires.part in
    let below = c.picked-variable.ensures.within in
    let at : c.index-sets-variable.result ≡ set_at box v =
    c.index-sets-variable.is ∙ ap (λ (b : List (List (ℤ × ℤ))). get_or b v c.index-sets-variable.result) c.sets-2.ensures.sets ∙ same_at box v c.index-sets-variable.result (single (pos 0)) below in
    rw (to_z-of_z fits) (record {
      full = c.requires.full;
      none_fails = c.requires.unrefuted;
      hope = c.requires.hope;
      within = (omega (arith, part, below), c.middle-number.ensures.word);
      picked = c.picked-variable.ensures.picked;
      number = c.middle-number.ensures.middle ∙ ap middle at;
    })
