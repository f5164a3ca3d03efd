use Rattle.std.proofs.Common.{◌-◌, ◌^◌}
use Rattle.fz_resolve.proofs.AnnotationLaws.{count_more}
use Rattle.fz_resolve.proofs.annotations.element_count.Goals as goal

pub loop-range-preserved : goal.loop-range-preserved
loop-range-preserved c =
    count_more c.args.shape.now c.loop-range.range-index _ (2 ^ 64 - 1) c.loop-range.count c.index_count.result c.saturating_mul-count.result c.loop-range-test.true c.loop-range.invariant c.index_count.ensures c.saturating_mul-count.ensures
