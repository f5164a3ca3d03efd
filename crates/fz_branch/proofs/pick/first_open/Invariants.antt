use Rattle.std.proofs.Common.{◌≡◌, ℕ, ◌<◌, false}
use Rattle.fz_branch.specs.Values.{is_open}
use Rattle.fz_branch.specs.Picks.{domain_of}
use Rattle.fz_branch.proofs.pick.first_open.Given as goal

-- none so far has more than one value left
abbrev pub invariant-loop-place : goal.invariant-loop-place
invariant-loop-place l = (k : ℕ) → k < l.place → is_open (domain_of l.doms l.variables k) ≡ false
