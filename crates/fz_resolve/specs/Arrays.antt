-- Arrays as names stand for them.
use Rattle.std.specs.Prelude.{List}
use Rattle.fz_spec.specs.declared.kind.Kind.{Kind}

-- an array of elements of this kind
pub record Array (X : Type 0) : Type 0 where
  pub kind : Kind
  pub items : List X
