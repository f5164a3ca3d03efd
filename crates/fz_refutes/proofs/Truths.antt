-- The truth of a constraint depends on the numbers of its variables alone.
use Rattle.std.proofs.Common.{◌≡◌, ℕ, List, [], ◌∷◌, refl}
use Rattle.std.specs.Prelude.{ℤ}
use Rattle.std.specs.List.{AllByRecursion}
use Rattle.fz_spec.specs.declared.term.Term.{Term}
use Rattle.fz_spec.specs.declared.term.Term.TheVariants.{Num, Var}
use Rattle.fz_spec.specs.Constraints.{Constraint, IsTrueOf, term_value, terms_among}
use Rattle.fz_spec.specs.Signatures.{shape_of}
use Rattle.fz_spec.proofs.Agreeing.{Agree, truth_agrees}
use Rattle.fz_refutes.specs.Refuted.{variables_among, variables_of}

-- two assignments give a variable the same number
abbrev pub IsSameAt : List ℤ → List ℤ → ℕ → Type 0
IsSameAt a b v = term_value a (Var v) ≡ term_value b (Var v)

terms_agree : (a b : List ℤ) (ts : List Term) → AllByRecursion (IsSameAt a b) (variables_among ts) → Agree a b ts
terms_agree a b [] same = tt
terms_agree a b (Num n ∷ ts) same = (refl, terms_agree a b ts same)
terms_agree a b (Var v ∷ ts) same = (same.0, terms_agree a b ts same.1)

pub truth_stays : (c : Constraint) (a b : List ℤ) → AllByRecursion (IsSameAt a b) (variables_of c.arguments) → IsTrueOf a c → IsTrueOf b c
truth_stays c a b same holds = truth_agrees (shape_of c.name) c.arguments a b (terms_agree a b (terms_among c.arguments) same) holds
