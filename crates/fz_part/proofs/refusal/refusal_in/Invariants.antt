use Rattle.std.specs.Prelude.{take}
use Rattle.std.specs.List.{AllByRecursion}
use Rattle.fz_part.specs.Parts.{IsDecisionOf}
use Rattle.fz_part.proofs.refusal.refusal_in.Given as goal

-- the decisions so far are of the model
abbrev pub invariant-loop-decision : goal.invariant-loop-decision
invariant-loop-decision l = AllByRecursion (IsDecisionOf l.variables) (take l.decision-index l.decisions)
