use Rattle.std.proofs.Common.{◌≡◌, take}
use Rattle.fz_cumulative.specs.Tasks.{profile_of}
use Rattle.fz_cumulative.proofs.profile.profile.Given as goal

-- the profile so far
abbrev pub invariant-loop-i : goal.invariant-loop-i
invariant-loop-i l = l.loads.items ≡ take l.i (profile_of l.tasks)
