use Rattle.std.proofs.Common.{pos, get_or}
use Rattle.fz_spec.specs.declared.term.Term.TheVariants.{Num}
use Rattle.fz_hall.specs.Lefts.{left_of}
use Rattle.fz_hall.proofs.Seating.{mapped_more, same_interval}
use Rattle.fz_hall.proofs.lefts.lefts_of.Goals as goal

pub loop-term-preserved : goal.loop-term-preserved
loop-term-preserved c =
    let f = left_of c.args.store.now.doms in
    let xs = c.args.terms.now in
    let k = c.loop-term.term-index in
    let here = same_interval c.ends_of.result (f (get_or xs k (Num (pos 0)))) c.ends_of.ensures.low c.ends_of.ensures.high in
    mapped_more f xs k (Num (pos 0)) c.loop-term.lefts.items c.push.new.self.items c.ends_of.result c.loop-term-test.true c.loop-term.invariant here c.in_ok-push.ensures.items
