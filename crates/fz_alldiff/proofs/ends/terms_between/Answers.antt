use Rattle.std.proofs.Common.{arith}
use Rattle.fz_alldiff.proofs.Between.{between_none, between_ends}
use Rattle.fz_alldiff.proofs.ends.terms_between.Goals.{then-front-count-via-then-front-count, then-front-count-via-else-front-count+then-back-count}
use Rattle.fz_alldiff.proofs.ends.terms_between.Goals as goal

pub returns-then-front-count : goal.returns-then-front-count
returns-then-front-count c =
    elim c.then-front-count.branch [
      | then-front-count-via-then-front-count w ↦ between_none c.args.terms.now c.args.front c.args.back (omega (arith, w.if-front-count.true))
      | then-front-count-via-else-front-count+then-back-count w ↦
          between_none c.args.terms.now c.args.front c.args.back (omega (arith, w.if-front-count.false, w.if-back-count.true))
    ]

pub returns : goal.returns
returns c = between_ends c.args.terms.now c.args.front c.args.back
