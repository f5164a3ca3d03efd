use Rattle.std.proofs.Common.{◌≡◌, take}
use Rattle.fz_branch.proofs.plan.copies.Given as goal

-- those so far are copied
abbrev pub invariant-loop-part : goal.invariant-loop-part
invariant-loop-part l = l.copies.items ≡ take l.part-index l.parts
