use Rattle.std.proofs.Common.{◌≡◌, take}
use Rattle.fz_account.proofs.account.given_copies.Given as goal

-- those so far are copied
abbrev pub invariant-loop-frontier : goal.invariant-loop-frontier
invariant-loop-frontier l = l.copies.items ≡ take l.frontier-index l.given
