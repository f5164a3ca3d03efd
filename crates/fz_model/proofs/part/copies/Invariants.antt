use Rattle.std.proofs.Common.{◌≡◌, take}
use Rattle.fz_model.proofs.part.copies.Given as goal

-- those so far are copied
abbrev pub invariant-loop-part : goal.invariant-loop-part
invariant-loop-part g l = l.copies.items ≡ take l.part-index l.parts
