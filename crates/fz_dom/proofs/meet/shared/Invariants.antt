use Rattle.std.proofs.Common.{◌+◌, ◌-◌, length, drop}
use Rattle.fz_dom.proofs.Shared.{IsSharing}
use Rattle.fz_dom.proofs.meet.shared.Given as goal

abbrev pub invariant-merge : goal.invariant-merge
invariant-merge l = IsSharing l.shift l.kept.items (drop l.i l.mine) (drop l.j l.theirs) l.mine l.theirs

abbrev pub decreases-merge : goal.decreases-merge
decreases-merge l = length l.mine - l.i + (length l.theirs - l.j)
