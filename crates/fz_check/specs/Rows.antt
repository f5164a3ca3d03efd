-- Rows of the table of constraints, as values and as definitions.
use Rattle.std.specs.Prelude.{ℕ, Bool, true, List, [], ◌∷◌, map, ◌&&◌}
use Rattle.std.specs.Ordering.{is_lt, nat_cmp}
use Rattle.std.specs.Cmp.Lexicographic.{slice_cmp}
use denote.Ref.{Bor}
use Rattle.fz_spec.specs.declared.asked.Asked.{Asked}
use Rattle.fz_spec.specs.declared.asked.Lengths.{Lengths}
use Rattle.fz_spec.specs.declared.builtin.Builtin.{Builtin}
use Rattle.fz_spec.specs.declared.shape.Shape.{Shape}
use Rattle.fz_spec.specs.Signatures as signatures

abbrev pub row_of : Bor (List ℕ) × Builtin × Bor (List (Bor (List Asked))) × Lengths × Shape → signatures.Row
row_of r = record { name = r.0.now; builtin = r.1; signatures = map (λ s. s.now) r.2.now; lengths = r.3; shape = r.4 }

-- each name is below the next
abbrev pub are_rising : List signatures.Row → Bool
are_rising [] = true
are_rising (row ∷ []) = true
are_rising (row ∷ next ∷ rows) = is_lt (slice_cmp nat_cmp row.name next.name) && are_rising (next ∷ rows)
