use Rattle.std.proofs.Common.{◌≡◌, ◌∙◌, ◌<◌, ℤ, true, List, length, ap, sym, subst, arith, rules}
use Rattle.std.proofs.Math.Facts.{to_z-of_z}
use mir.Val.{SFits}
use mir.Syntax.{w32}
use Rattle.fz_branch.specs.Values.{is_open, middle}
use Rattle.fz_branch.proofs.Choosing.{open_within}
use Rattle.fz_split.specs.Divisions.{IsDivision}
use Rattle.fz_split.proofs.Dividing.{divided, chosen_on, open_first, dom_read, halved}
use Rattle.fz_split.proofs.division.within.Goals as goal

pub returns-then-len-room-clause-division : goal.returns-then-len-room-clause-division
returns-then-len-room-clause-division c = divided c.args.plan.now c.args.doms.now c.args.choice c.requires.domains c.requires.chosen

pub bounds-doms-variable : goal.bounds-doms-variable
bounds-doms-variable c =
    let several = c.len.ensures.choice.several in
    let some : 0 < length c.args.choice = omega (arith, several) in
    open_within c.args.doms.now c.decision-first.result.variable (open_first c.args.doms.now c.args.choice c.decision-first.result (chosen_on c.args.plan.now c.args.doms.now c.args.choice c.requires.chosen) some c.decision-first.ensures)

pub middle-requires : goal.middle-requires
middle-requires c =
    let several = c.len.ensures.choice.several in
    let some : 0 < length c.args.choice = omega (arith, several) in
    let is_several = open_first c.args.doms.now c.args.choice c.decision-first.result (chosen_on c.args.plan.now c.args.doms.now c.args.choice c.requires.chosen) some c.decision-first.ensures in
    subst (λ (d : List (ℤ × ℤ)). is_open d ≡ true) (sym (dom_read c.args.doms.now c.decision-first.result.variable c.index-doms-variable.result is_several c.index-doms-variable.is)) is_several

pub returns-clause-division : goal.returns-clause-division
returns-clause-division c =
    let several = c.len.ensures.choice.several in
    let some : 0 < length c.args.choice = omega (arith, several) in
    let is_several = open_first c.args.doms.now c.args.choice c.decision-first.result (chosen_on c.args.plan.now c.args.doms.now c.args.choice c.requires.chosen) some c.decision-first.ensures in
    let fits : SFits w32 c.middle.result = search rules in
    subst (IsDivision c.args.doms.now) (sym c.two.ensures)
    (rw (to_z-of_z fits) (halved c.args.doms.now c.decision-first.result.variable c.middle.result c.requires.domains is_several (c.middle.ensures ∙ ap middle (dom_read c.args.doms.now c.decision-first.result.variable c.index-doms-variable.result is_several c.index-doms-variable.is))))
