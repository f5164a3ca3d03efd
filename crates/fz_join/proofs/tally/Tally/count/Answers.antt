use Rattle.std.proofs.Common.{rules, sym}
use Rattle.fz_join.proofs.Tallying.{counts}
use Rattle.fz_join.proofs.tally.Tally.count.Goals as goal

pub returns-in-Some-clause-counted : goal.returns-in-Some-clause-counted
returns-in-Some-clause-counted c = λ i q.
    counts c.args.text.now c.args.self.now.times (c.get_mut.follows.lender c.saturating_add.result) c.in-Some.times.now c.saturating_add.result (sym c.in-Some.ensures.value) c.saturating_add.ensures
    ((c.get_mut.follows.holds c.saturating_add.result).3 (search rules)) q i
