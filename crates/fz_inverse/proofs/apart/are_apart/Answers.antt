use Rattle.std.proofs.Common.{get_or, pos, arith}
use Rattle.std.proofs.lemmas.Option.{slice_get-get_or}
use Rattle.fz_spec.specs.declared.term.Term.TheVariants.{Num}
use Rattle.fz_inverse.proofs.Different.{apart_none, apart_more, apart_all}
use Rattle.fz_inverse.proofs.apart.are_apart.Goals as goal

pub loop-place-init : goal.loop-place-init
loop-place-init c = apart_none c.args.firsts.now c.args.seconds.now

pub loop-place-preserved : goal.loop-place-preserved
loop-place-preserved c =
    let gs = c.args.seconds.now in
    let k = c.loop-place.place in
    let at = slice_get-get_or gs k (Num (pos 0)) c.loop-place-test.true in
    apart_more c.args.firsts.now gs k (get_or gs k (Num (pos 0))) at (c.is_before.ensures c.if-is_before.false) (c.is_before-in-loop-place.ensures c.if-is_before-2.false) c.loop-place.invariant

pub returns : goal.returns
returns c = λ e.
    let end = c.loop-place-test.false in
    apart_all c.args.firsts.now c.args.seconds.now c.loop-place.place (omega (arith, end)) c.loop-place.invariant
