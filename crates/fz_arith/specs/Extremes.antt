-- The least or the greatest of numbers, and of terms.
use Rattle.std.specs.Prelude.{ℕ, ℤ, List}
use Rattle.std.specs.Int.{int_min, int_max}
use Rattle.fz_spec.specs.declared.shape.Operation.{Operation}
use Rattle.fz_spec.specs.declared.shape.Operation.TheVariants.{Min, Max}
use Rattle.fz_spec.specs.declared.term.Term.{Term}
use Rattle.fz_prop.specs.Told.{AreEndsDone, IsBeaten}

-- the lesser of two, or the greater
abbrev pub pick : Operation → ℤ → ℤ → ℤ
pick Min x y = int_min x y
pick operation x y = int_max x y

-- what it makes is one of its operands
abbrev pub IsExtreme : Operation → Type 0
IsExtreme Min = Unit {0}
IsExtreme Max = Unit {0}
IsExtreme operation = ⊥

-- of that many terms at each end none is the least, or the greatest
abbrev pub AreEndsBeaten : Operation → List Term → Term → ℕ → ℕ → List (List (ℤ × ℤ)) → Type 0
AreEndsBeaten operation xs z front back ds = AreEndsDone (λ i t. IsBeaten operation ds z t) xs front back
