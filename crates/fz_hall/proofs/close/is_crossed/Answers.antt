use Rattle.std.proofs.Common.{◌≡◌, ◌<◌, inl, inr, rules, count_by, arith}
use Rattle.fz_strength.proofs.Spreads.{spread_by_few}
use Rattle.fz_hall.specs.Counts.{begins_in, ends_in}
use Rattle.fz_hall.proofs.Pairs.{all_ordered}
use Rattle.fz_hall.proofs.close.is_crossed.Goals.{then-begins-size-via-then-begins-size, then-begins-size-via-else-begins-size+then-ends-size}
use Rattle.fz_hall.proofs.close.is_crossed.Goals as goal

pub returns-then-begins-size : goal.returns-then-begins-size
returns-then-begins-size c = λ is.
    let xs = c.args.terms.now in
    let ds = c.args.store.now.doms in
    let low = c.args.interval.low in
    let high = c.args.interval.high in
    let ordered = all_ordered ds xs c.requires.terms c.doms.ensures.store.domains in
    elim c.then-begins-size.branch [
      | then-begins-size-via-then-begins-size w ↦ (
          let fewer : count_by (begins_in ds low high) xs < c.args.size = rw c.requires.begins at w.if-begins-size.true in
          spread_by_few xs ds low high c.args.size ordered c.requires.size (inl (inl fewer)))
      | then-begins-size-via-else-begins-size+then-ends-size w ↦ (
          let fewer : count_by (ends_in ds low high) xs < c.args.size = rw c.requires.ends at w.if-ends-size.true in
          spread_by_few xs ds low high c.args.size ordered c.requires.size (inl (inr fewer)))
    ]

pub returns-then-ends-size-2 : goal.returns-then-ends-size-2
returns-then-ends-size-2 c = λ is.
    let xs = c.args.terms.now in
    let ds = c.args.store.now.doms in
    let low = c.args.interval.low in
    let high = c.args.interval.high in
    let ordered = all_ordered ds xs c.requires.terms c.doms.ensures.store.domains in
    let begins : c.args.begins ≡ c.args.size = search rules in
    let ends : c.args.ends ≡ c.args.size = search rules in
    let begin = c.requires.begins in
    let end = c.requires.ends in
    spread_by_few xs ds low high c.args.size ordered c.requires.size (inr (omega (arith, begin, begins), omega (arith, end, ends)))
