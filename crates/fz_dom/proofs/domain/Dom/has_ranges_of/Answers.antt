use Rattle.std.proofs.Common.{refl, arith}
use Rattle.fz_dom.proofs.Kept.{same_by}
use Rattle.fz_dom.proofs.domain.Dom.has_ranges_of.Goals as goal

pub returns-clause-same : goal.returns-clause-same
returns-clause-same c = (
  λ t. same_by c.args.self.now c.args.other.now
      (let a = c.range_count-count.ensures.count in let b = c.range_count.ensures.count in let n = c.if-range_count-count.false in omega arith)
      (λ k l. c.loop-i.invariant k (let a = c.range_count-count.ensures.count in let u = c.loop-i-test.false in omega arith)),
  λ e. refl,
)
