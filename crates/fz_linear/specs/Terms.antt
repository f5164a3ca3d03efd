-- Terms of a store.
use Rattle.std.specs.Prelude.{ℕ, List}
use Rattle.std.specs.List.{AllByRecursion}
use Rattle.fz_spec.specs.declared.term.Term.{Term}
use Rattle.fz_strength.specs.Domains.{IsTermOf}

-- numbers, or variables of the store
abbrev pub AreTermsOf : ℕ → List Term → Type 0
AreTermsOf n ts = AllByRecursion (IsTermOf n) ts
