use Rattle.std.proofs.Common.{◌≡◌, map, take}
use Rattle.fz_branch.specs.Plans.{only_shown}
use Rattle.fz_branch.proofs.shown.shown_parts.Given as goal

-- those so far are cut down
abbrev pub invariant-loop-part : goal.invariant-loop-part
invariant-loop-part l = l.cut.items ≡ map (only_shown l.model) (take l.part-index l.parts)
