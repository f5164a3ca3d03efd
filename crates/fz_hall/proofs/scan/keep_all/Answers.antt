use Rattle.std.proofs.Common.{◌≡◌, ◌∙◌, rules, w32}
use Rattle.std.proofs.Math.Facts.{to_z-of_z}
use mir.Val.{SFits}
use Rattle.fz_hall.specs.Lefts.{AreSpreadFrom}
use Rattle.fz_hall.proofs.Pairs.{pairs_more, pairs_all}
use Rattle.fz_hall.proofs.scan.keep_all.Goals as goal

pub loop-term-preserved : goal.loop-term-preserved
loop-term-preserved c =
    let xs = c.args.terms.now in
    let s = c.loop-term.store in
    let t = c.keep_from_low.new.store in
    let same : t ≡ s = rw c.in-Same.is at c.in_ok-change.ensures.outcome in
    let fits : SFits w32 c.ends_of-low.result.low = search rules in
    let here : AreSpreadFrom xs t.doms c.ends_of-low.result.low = rw (c.in-Same.is, to_z-of_z fits) at c.in_ok-change.ensures.spread in
    record {
      same = same ∙ c.loop-term.invariant.same;
      spread = pairs_more xs s t c.loop-term.term-index c.ends_of-low.result.low same c.loop-term-test.true c.loop-term.invariant.spread c.ends_of-low.ensures.low here;
    }

pub returns-clause-spread : goal.returns-clause-spread
returns-clause-spread c = pairs_all c.args.terms.now c.args.store.now c.loop-term.store c.loop-term.term-index c.requires c.doms.ensures.store.domains c.loop-term.invariant.same c.loop-term-test.false c.loop-term.invariant.spread
