use Rattle.std.proofs.Common.{arith, rules, ◌<◌, ◌^◌}
use Rattle.std.proofs.lemmas.Int.{ints}
use Rattle.fz_dom.proofs.Changes.{next_bit}
use Rattle.fz_dom.proofs.head.Head.next_from.Goals as goal

pub returns : goal.returns
returns c =
    let h = c.args.self.now in
    let r = c.requires in
    let some : 0 < h.bits = (let t = c.if-self-eq0.false in omega arith) in
    let q : c.common-above.result < 2 ^ 64 = search rules in
    let f = r.whole.floor in let g = r.whole.ceiling in
    next_bit h c.args.value _ c.place.result c.run_of.result c.common-above.result r.whole some r.high (search rules) c.place.ensures.below q
    (search rules) c.common-above.ensures (λ l. omega (arith, ints))
