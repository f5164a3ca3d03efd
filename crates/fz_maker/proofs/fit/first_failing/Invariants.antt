use Rattle.std.proofs.Common.{◌≡◌, ℕ, ◌<◌, length}
use Rattle.std.specs.Prelude.{slice_get}
use Rattle.fz_refutes.specs.Refuted.{RefutesIfThere}
use Rattle.fz_maker.proofs.fit.first_failing.Given as goal

-- none so far is refuted
abbrev pub invariant-loop-constraint : goal.invariant-loop-constraint
invariant-loop-constraint l = record {
  none : (b : ℕ) → b < l.constraint → RefutesIfThere (slice_get l.model.constraints b) l.area → ⊥;
  room : length l.values.items ≡ length l.area;
}
