use Rattle.std.proofs.Common.{◌≡◌, List, length}
use Rattle.std.specs.List.{AllByRecursion}
use Rattle.fz_tree.specs.declared.decision.Decision.{Decision}
use Rattle.fz_part.specs.Texts.{part_text, IsWritten}
use Rattle.fz_part.proofs.Reading.{IsReadSoFar}
use Rattle.fz_part.proofs.read.decisions_of.Given as goal

-- where the text is a part's, its first decisions were read
abbrev pub invariant-decisions : goal.invariant-decisions
invariant-decisions l = (p : List Decision) → AllByRecursion IsWritten p → part_text p ≡ l.text → IsReadSoFar p l.decisions.items l.left

abbrev pub decreases-decisions : goal.decreases-decisions
decreases-decisions l = length l.left
