use Rattle.std.proofs.Common.{rules}
use Rattle.std.specs.Prelude.{pos, ◌+ℤ◌, ◌-ℤ◌, ◌<ℤ◌}
use Rattle.fz_hall.proofs.Confining.{never_crowded}
use Rattle.fz_hall.proofs.narrow.keep_interval.Goals as goal

pub returns-then-count-size-2-clause-outcome : goal.returns-then-count-size-2-clause-outcome
returns-then-count-size-2-clause-outcome c = λ a within different.
    let low = c.args.interval.low in
    let high = c.args.interval.high in
    let more : ((high -ℤ low) +ℤ pos 1) <ℤ pos c.count_confined-count.result = search rules in
    never_crowded c.args.store.now.doms a low high c.count_confined-count.result c.args.terms.now c.requires c.doms.ensures.store.domains c.count_confined-count.ensures c.if-count-eq0.false more within different
