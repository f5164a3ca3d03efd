use Rattle.std.proofs.Common.{List, subst}
use Rattle.fz_spec.specs.Instance.{SearchPart}
use Rattle.fz_branch.specs.Plans.{IsChosen}
use Rattle.fz_branch.proofs.Choosing.{chosen, more_done, some_of_part, none_of_part}
use Rattle.fz_branch.proofs.choose.choose_among.Goals as goal

pub returns-in-Some : goal.returns-in-Some
returns-in-Some c =
    subst (λ (ps : List SearchPart). IsChosen ps c.args.doms.now c.in-Some.choice) c.parts-parts.ensures.parts
    (chosen c.args.doms.now c.parts-parts.result.now c.loop-place.place c.index-parts-place.result c.in-Some.choice c.loop-place-test.true c.index-parts-place.is c.loop-place.invariant
    (some_of_part c.args.doms.now c.index-parts-place.result c.in_ok-choice.field-0 c.in-Some.choice c.in-Some.is c.in_ok-choice.ensures))

pub loop-place-preserved : goal.loop-place-preserved
loop-place-preserved c =
    more_done c.args.doms.now c.parts-parts.result.now c.loop-place.place c.index-parts-place.result c.loop-place-test.true c.index-parts-place.is c.loop-place.invariant
    (none_of_part c.args.doms.now c.index-parts-place.result c.in_ok-choice.field-0 c.in_default.is c.in_ok-choice.ensures)
