use Rattle.std.proofs.Common.{arith, refl, pos}
use Rattle.std.proofs.lemmas.Option.{slice_get-get_or}
use Rattle.fz_spec.specs.declared.term.Term.TheVariants.{Num}
use Rattle.fz_inverse.specs.Pointing.{IsLeftAt}
use Rattle.fz_inverse.proofs.Lefts.{bits_none, bits_passed, bits_more, bits_all, left_here}
use Rattle.fz_inverse.proofs.numbers.bits_left.Goals as goal

pub loop-index-init : goal.loop-index-init
loop-index-init c = bits_none c.args.others.now c.args.store.now.doms c.args.place c.word_of-left.result

pub loop-index-preserved-then-not-has_bit : goal.loop-index-preserved-then-not-has_bit
loop-index-preserved-then-not-has_bit c =
    bits_passed c.args.others.now c.args.store.now.doms c.args.place c.word_of-left.result c.loop-index.index c.loop-index.kept (λ was back. cc (c.if-not-has_bit.ensures.1 was)) c.loop-index.invariant

pub loop-index-preserved-then-not-has_place : goal.loop-index-preserved-then-not-has_place
loop-index-preserved-then-not-has_place c =
    let others = c.args.others.now in
    let ds = c.args.store.now.doms in
    let n = c.loop-index.index in
    let at = slice_get-get_or others n (Num (pos 0)) c.loop-index-test.true in
    bits_passed others ds c.args.place c.word_of-left.result n c.loop-index.kept (λ was back. cc (c.if-not-has_place.ensures.1 (left_here others ds c.args.place n _ at back))) c.loop-index.invariant

pub loop-index-preserved : goal.loop-index-preserved
loop-index-preserved c =
    let others = c.args.others.now in
    let ds = c.args.store.now.doms in
    let n = c.loop-index.index in
    let at = slice_get-get_or others n (Num (pos 0)) c.loop-index-test.true in
    let back : IsLeftAt others ds c.args.place n = record { term = _; stands = at; left = c.if-not-has_place.ensures.0 refl } in
    bits_more others ds c.args.place c.word_of-left.result n c.loop-index.kept c.with_bit-kept.result (c.if-not-has_bit.ensures.0 refl) back c.with_bit-kept.ensures c.loop-index.invariant

pub returns : goal.returns
returns c =
    let end = c.loop-index-test.false in
    bits_all c.args.others.now c.args.store.now.doms c.args.term c.args.place c.word_of-left.result c.loop-index.index c.loop-index.kept c.word_of-left.ensures c.requires.few (omega (arith, end)) c.loop-index.invariant
