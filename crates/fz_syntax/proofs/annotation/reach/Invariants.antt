use Rattle.std.proofs.Common.{◌≡◌, ◌+◌, drop}
use Rattle.fz_syntax.specs.Reaches.{reached}
use Rattle.fz_syntax.proofs.annotation.reach.Given as goal

-- those that are left after those so far
abbrev pub invariant-loop-i : goal.invariant-loop-i
invariant-loop-i l = reached l.arguments l.count ≡ l.i + reached (drop l.i l.arguments) l.left
