use Rattle.std.proofs.Common.{◌≡◌, take}
use Rattle.fz_model.proofs.constraints.are_same_by_number.Given as goal

-- those so far are the same
abbrev pub invariant-loop-number : goal.invariant-loop-number
invariant-loop-number l = take l.number l.these ≡ take l.number l.those
