use Rattle.std.proofs.Common.{◌≡◌, ◌∙◌, [], arith, refl, rules}
use Rattle.std.proofs.Math.Facts.{to_z-of_z}
use mir.Val.{SFits}
use mir.Syntax.{w32}
use Rattle.fz_sets.proofs.Lists.{same_at}
use Rattle.fz_strength.specs.Domains.{dom_at}
use Rattle.fz_space.proofs.Fronts.{none_settled, settled_next}
use Rattle.fz_space.proofs.settled.first_numbers.Goals as goal

pub loop-place-init : goal.loop-place-init
loop-place-init c = rw c.in_ok-numbers.ensures.items (refl, none_settled c.args.doms.now)

pub loop-place-preserved : goal.loop-place-preserved
loop-place-preserved c =
    let doms = c.args.doms.now in
    let at : c.index-doms-place.result ≡ dom_at doms c.loop-place.place = c.index-doms-place.is ∙ same_at doms c.loop-place.place c.index-doms-place.result [] (omega (arith, c.loop-place-test.true, c.requires.front.within)) in
    let fits : SFits w32 c.min.result = search rules in
    settled_next c.loop-place.numbers.items _ doms c.index-doms-place.result c.min.result c.loop-place.place c.args.front c.loop-place-test.true c.requires.front at c.min.ensures.first (rw (to_z-of_z fits) at c.in_ok-push.ensures.items) c.loop-place.invariant
