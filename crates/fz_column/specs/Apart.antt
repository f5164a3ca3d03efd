-- Terms of which none is a variable that stands at two places.
use Rattle.std.specs.Prelude.{◌≡◌, ℕ, ◌<◌, List, slice_get, Some}
use Rattle.fz_spec.specs.declared.term.Term.{Term}
use Rattle.fz_spec.specs.declared.term.Term.TheVariants.{Var}

-- no variable stands at two places
abbrev pub AreApart : List Term → Type 0
AreApart xs = (j k v : ℕ) → slice_get xs j ≡ Some (Var v) → slice_get xs k ≡ Some (Var v) → j ≡ k

-- a term is no variable that stands before a place
abbrev pub IsNotBefore : List Term → ℕ → Term → Type 0
IsNotBefore xs place t = (j v : ℕ) → t ≡ Var v → j < place → slice_get xs j ≡ Some (Var v) → ⊥
