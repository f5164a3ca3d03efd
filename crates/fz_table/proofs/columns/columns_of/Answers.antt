use Rattle.fz_table.proofs.Building.{columns_more}
use Rattle.fz_table.proofs.columns.columns_of.Goals as goal

pub loop-place-preserved : goal.loop-place-preserved
loop-place-preserved c =
    rw c.in_ok-push.ensures.items
    (columns_more c.args.table.now c.args.width c.loop-place.columns.items c.loop-place.place c.in_ok-column.column c.in_ok-column.ensures c.loop-place.invariant)
