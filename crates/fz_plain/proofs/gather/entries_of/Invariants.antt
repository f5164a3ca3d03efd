use Rattle.std.proofs.Common.{◌≡◌, ◌++◌, drop}
use Rattle.fz_strength.specs.Sums.{left_factors, left_terms}
use Rattle.fz_plain.specs.Entries.{entries}
use Rattle.fz_plain.proofs.gather.entries_of.Given as goal

-- with those that are left they are all
abbrev pub invariant-loop-place : goal.invariant-loop-place
invariant-loop-place l = l.entries.items ++ entries (drop l.place l.factors) (drop l.place l.terms) ≡ entries (left_factors l.factors l.fn.last) (left_terms l.terms l.fn.last)
