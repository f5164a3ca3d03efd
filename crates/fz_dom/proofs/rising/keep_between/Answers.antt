use Rattle.std.proofs.Common.{arith}
use Rattle.std.proofs.lemmas.Int.{ints}
use Rattle.fz_dom.proofs.rising.keep_between.Goals as goal

pub returns : goal.returns
returns c =
    let a = c.keep_low.ensures in
    let b = c.keep_high.ensures in
    record {
      ranges = b.ranges;
      within = b.within;
      members = λ x. (
        λ i. (let p = (b.members x).0 i in let q = (a.members x).0 p.0 in let p1 = p.1 in let q1 = q.1 in (q.0, (omega (arith, ints), omega (arith, ints)))),
        λ m. (let m0 = m.1.0 in let m1 = m.1.1 in (b.members x).1 ((a.members x).1 (m.0, omega (arith, ints)), omega (arith, ints))),
      );
    }
