use Rattle.std.proofs.Common.{◌≡◌, take}
use Rattle.fz_account.proofs.account.found_copies.Given as goal

-- those so far are copied
abbrev pub invariant-loop-assignment : goal.invariant-loop-assignment
invariant-loop-assignment l = l.copies.items ≡ take l.assignment-index l.found
