-- Whatever numbers in their sets some variables have, a constraint is false.
use Rattle.std.specs.Prelude.{◌≡◌, ℕ, ℤ, List, [], ◌∷◌, slice_set}
use Rattle.fz_sets.specs.Sets.{IsInSet}
use Rattle.fz_spec.specs.declared.term.Term.TheVariants.{Var}
use Rattle.fz_spec.specs.Constraints.{Constraint, IsTrueOf, term_value}
use Rattle.fz_refutes.specs.Boxes.{set_at}

-- the other variables have their numbers
abbrev pub NeverFrom : Constraint → List (List (ℤ × ℤ)) → List ℕ → List ℤ → Type 0
NeverFrom c box [] a = IsTrueOf a c → ⊥
NeverFrom c box (v ∷ vs) a = (x : ℤ) → IsInSet (set_at box v) x → NeverFrom c box vs (slice_set a v x)

-- where one number is left of a variable, that is its number
abbrev pub HasFixed : List (List (ℤ × ℤ)) → List ℤ → ℕ → Type 0
HasFixed box a v = (x : ℤ) → set_at box v ≡ (x, x) ∷ [] → term_value a (Var v) ≡ x
