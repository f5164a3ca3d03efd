use Rattle.std.proofs.Common.{◌≡◌, ◌++◌, map, take}
use Rattle.fz_part.specs.Parts.{constraint_of}
use Rattle.fz_part.proofs.task.push_decisions.Given as goal

-- what the decisions so far say is added
abbrev pub invariant-loop-decision : goal.invariant-loop-decision
invariant-loop-decision l = l.constraints ≡ l.fn.constraints ++ map (constraint_of l.variables) (take l.decision-index l.decisions)
