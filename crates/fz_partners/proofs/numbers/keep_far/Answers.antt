use Rattle.std.proofs.lemmas.Result.{IfOk-weaker}
use Rattle.fz_sets.specs.Sets.{IsInSet}
use Rattle.fz_column.proofs.Growing.{limits_by_numbers}
use Rattle.fz_partners.proofs.Keeping.{change_as}
use Rattle.fz_partners.proofs.numbers.keep_far.Goals as goal

pub from_ranges-requires : goal.from_ranges-requires
from_ranges-requires c = rw (c.as_slice.ensures.ranges) (limits_by_numbers c.args.spans.now c.as_slice.ensures.filled c.requires.limits)

pub returns-clause-change : goal.returns-clause-change
returns-clause-change c =
    let same = rw (c.as_slice.ensures.ranges) at c.in_ok-set.ensures.one_set in
    IfOk-weaker c.keep_in.result _ _ (λ r h. change_as r c.args.term (IsInSet c.in_ok-set.set) (IsInSet c.args.spans.now) c.args.store.now c.keep_in.new.store same h) c.keep_in.ensures.change
