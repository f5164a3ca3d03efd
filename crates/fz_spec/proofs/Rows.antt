-- The row of a constraint stands at the place of its variant.
use Rattle.std.proofs.Common.{◌≡◌, map, refl, slice_index_or}
use denote.Enum.Declared.{tag_of}
use Rattle.fz_spec.specs.declared.builtin.Builtin.{Builtin}
use Rattle.fz_spec.specs.declared.builtin.Builtin.TheVariants.{AllDifferentInt}
use Rattle.fz_spec.specs.declared.shape.Shape.TheVariants.{Distinct}
use Rattle.fz_spec.specs.contracts.builtin.Builtin.{the_type}
use Rattle.fz_spec.specs.Signatures.{Row, rows, shape_of}

pub at_place : (name : Builtin) → slice_index_or (map (λ (row : Row). row.shape) rows) (tag_of the_type name) Distinct ≡ shape_of name
unfolding shape_of
at_place AllDifferentInt = refl
at_place name = refl
