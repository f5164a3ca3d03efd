use Rattle.fz_dom.proofs.Gathered.{AreGathered}
use Rattle.fz_dom.proofs.close.bits_of.Given as goal

-- a number of the ranges so far has its bit, and all of theirs lie in the word
abbrev pub invariant-loop-r : goal.invariant-loop-r
invariant-loop-r l = AreGathered l.bits l.base l.ranges l.r-index
