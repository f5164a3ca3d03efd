-- What constraints ask of their arguments, and the shapes of what they say: the table of `src/row.rt`.
use Rattle.std.specs.Prelude.{ℕ, Bool, true, Option, Some, None, List, [], ◌∷◌, length, map, find, bytes_eq, nat_lt, ◌&&◌, ◌==◌, ◌%◌}
use Rattle.std.specs.List.{list_all}
use Rattle.fz_spec.specs.declared.asked.Asked.{Asked}
use Rattle.fz_spec.specs.declared.asked.Lengths.{Lengths}
use Rattle.fz_spec.specs.declared.asked.Lengths.TheVariants.{Equal, Rows, Behind}
use Rattle.fz_spec.specs.declared.builtin.Builtin.{Builtin}
use Rattle.fz_spec.specs.declared.row.TheConstants.{ROWS}
use Rattle.fz_spec.specs.declared.shape.Shape.{Shape}
use Rattle.fz_spec.specs.declared.shape.Shape.TheVariants.{Distinct}
use Rattle.fz_spec.specs.contracts.builtin.BuiltinPartialEq.TheImpl as equality

-- what a constraint asks: one of these signatures, and lists of these lengths; and the shape of what it says
pub record Row : Type 0 where
  pub name : List ℕ
  pub builtin : Builtin
  pub signatures : List (List Asked)
  pub lengths : Lengths
  pub shape : Shape

abbrev pub rows : List Row
rows = map (λ r. record { name = r.0.now; builtin = r.1; signatures = map (λ s. s.now) r.2.now; lengths = r.3; shape = r.4 }) ROWS

-- the row of a name
abbrev pub row_named : List ℕ → Option Row
row_named name = find (λ (row : Row). bytes_eq name row.name) rows

-- the row of a constraint
abbrev pub row_of : Builtin → Option Row
row_of builtin = find (λ (row : Row). (equality.ghosts).eq builtin row.builtin) rows

-- the shape of what a constraint says: that of its row, and each has one
abbrev pub shape_in : Option Row → Shape
shape_in None = Distinct
shape_in (Some row) = row.shape

unfoldable pub shape_of : Builtin → Shape
shape_of builtin = shape_in (row_of builtin)

-- of the signatures of a row, that of that many arguments
abbrev pub signature_of : Row → ℕ → Option (List Asked)
signature_of row arity = find (λ (asked : List Asked). length asked == arity) row.signatures

-- Whether the lengths of a constraint's lists are those that are asked: each as the first; or the first isn't 0, and the second is a
-- multiple of it; or each as the second, but for the first.
abbrev pub have_lengths : Lengths → List ℕ → Bool
have_lengths Equal (n ∷ ns) = list_all (λ m. m == n) ns
have_lengths Rows (n ∷ m ∷ []) = nat_lt 0 n && (m % n == 0)
have_lengths Behind (n ∷ m ∷ ns) = list_all (λ k. k == m) ns
have_lengths lengths ns = true
