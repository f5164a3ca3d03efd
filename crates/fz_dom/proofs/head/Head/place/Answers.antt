use Rattle.std.proofs.Common.{arith}
use Rattle.std.proofs.lemmas.Int.{ints}
use Rattle.fz_dom.proofs.Changes.{place_at}
use Rattle.fz_dom.proofs.head.Head.place.Goals as goal

pub returns-clause-at : goal.returns-clause-at
returns-clause-at c =
    let r = c.requires in
    let p = place_at c.args.self.now c.args.value r.whole r.bits r.low r.high in
    let a = p.0 in
    omega (arith, ints)

pub returns-clause-below : goal.returns-clause-below
returns-clause-below c =
    let r = c.requires in
    let p = place_at c.args.self.now c.args.value r.whole r.bits r.low r.high in
    let a = p.0 in
    let b = p.1 in
    omega (arith, ints)
