use Rattle.std.proofs.Common.{◌≡◌, ℕ, ◌<◌, ◌+◌, ◌*◌}
use Rattle.std.specs.Prelude.{slice_range}
use Rattle.fz_spec.specs.Constraints.{term_values}
use Rattle.fz_truth.proofs.table.is_row_of.Given as goal

-- no row so far
abbrev pub invariant-loop-i : goal.invariant-loop-i
invariant-loop-i l = (k : ℕ) → k < l.i → slice_range l.table (k * l.width) (k * l.width + l.width) ≡ term_values l.values l.terms → ⊥
