use Rattle.std.proofs.Common.{◌≡◌, take}
use Rattle.fz_part.proofs.task.copies.Given as goal

-- those so far are copied
abbrev pub invariant-loop-item : goal.invariant-loop-item
invariant-loop-item g l = l.copies.items ≡ take l.item-index l.items
