use Rattle.std.proofs.Common.{◌≡◌, ◌∙◌, [], sym, subst, length, arith}
use Rattle.fz_sets.proofs.Lists.{same_at}
use Rattle.fz_strength.specs.Domains.{dom_at}
use Rattle.fz_space.specs.Alive.{FrontFixed}
use Rattle.fz_space.proofs.Fronts.{front_more}
use Rattle.fz_space.proofs.rest.first_open.Goals as goal

pub loop-place-init : goal.loop-place-init
loop-place-init c = c.requires.front

pub returns-then-not-is_fixed-clause-front : goal.returns-then-not-is_fixed-clause-front
returns-then-not-is_fixed-clause-front c = c.loop-place.invariant

pub loop-place-preserved : goal.loop-place-preserved
loop-place-preserved c =
    let doms = c.args.doms.now in
    let at : c.index-doms-place.result ≡ dom_at doms c.loop-place.place = c.index-doms-place.is ∙ same_at doms c.loop-place.place c.index-doms-place.result [] c.loop-place-test.true in
    let one = c.is_fixed.ensures.one.0 c.if-not-is_fixed.false in
    front_more doms c.loop-place.place one.0 c.loop-place-test.true (sym at ∙ one.1) c.loop-place.invariant

pub returns-clause-front : goal.returns-clause-front
returns-clause-front c =
    let all : c.loop-place.place ≡ length c.args.doms.now = omega (arith, c.loop-place.auto.place-end c.requires.front.within, c.loop-place-test.false) in
    subst (λ n. FrontFixed n c.args.doms.now) all c.loop-place.invariant
