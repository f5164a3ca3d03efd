-- Three terms with factors whose sum is to be a number, and what makes the sum.
use Rattle.std.specs.Prelude.{◌≡◌, ◌≢◌, ◌⊎◌, ℤ, pos, List, [], ◌∷◌}
use Rattle.fz_sets.specs.Sets.{IsInSet}
use Rattle.fz_spec.specs.declared.term.Term.{Term}
use Rattle.fz_spec.specs.declared.term.Term.TheVariants.{Num}
use Rattle.fz_spec.specs.Constraints.{term_values}
use Rattle.fz_spec.specs.Truth.{weighted_sum}
use Rattle.fz_strength.specs.Domains.{term_set}
use Rattle.fz_strength.specs.Equations.{RestsByNumbers, sets_of}
use Rattle.fz_strength.specs.Sayings.{Saying, SumByNumbers}
use Rattle.fz_partners.specs.declared.equation.Equation.{Equation}
use Rattle.fz_partners.specs.declared.equation.Product.{Product}
use Rattle.fz_partners.specs.declared.partnered_sum.Parts.{Parts}
use Rattle.fz_partners.specs.declared.partnered_sum.Parts.TheVariants.{Two, Three}

abbrev pub factors_of : Equation → List ℤ
factors_of e = e.first.factor ∷ e.second.factor ∷ e.third.factor ∷ []

abbrev pub terms_of : Equation → List Term
terms_of e = e.first.term ∷ e.second.term ∷ e.third.term ∷ []

-- no factor is 0
abbrev pub AllCount : Equation → Type 0
AllCount e = (e.first.factor ≢ pos 0) × (e.second.factor ≢ pos 0) × (e.third.factor ≢ pos 0)

-- these numbers make the sum
abbrev pub IsSumOf : Equation → ℤ → ℤ → ℤ → Type 0
IsSumOf e u v w = weighted_sum (factors_of e) (u ∷ v ∷ w ∷ []) ≡ e.number

-- terms that are the same have the same number
pub record DoAgree (s t r : Term) (u v w : ℤ) : Type 0 where
  pub first : s ≡ t → u ≡ v
  pub outer : s ≡ r → u ≡ w
  pub last : t ≡ r → v ≡ w

-- the numbers of some assignment, which make the sum
abbrev pub IsSolution : Equation → ℤ → ℤ → ℤ → Type 0
IsSolution e u v w = DoAgree e.first.term e.second.term e.third.term u v w × IsSumOf e u v w

-- each of the numbers is left of its term
abbrev pub IsLeft : List (List (ℤ × ℤ)) → Equation → ℤ → ℤ → ℤ → Type 0
IsLeft ds e u v w = IsInSet (term_set ds e.first.term) u × IsInSet (term_set ds e.second.term) v × IsInSet (term_set ds e.third.term) w

-- when an assignment makes it true, and where its propagator rests
abbrev pub EquationTruth : Equation → List ℤ → Type 0
EquationTruth e a = weighted_sum (factors_of e) (term_values a (terms_of e)) ≡ e.number

abbrev pub EquationLine : Equation → List (List (ℤ × ℤ)) → Type 0
EquationLine e ds = RestsByNumbers (sets_of ds (terms_of e)) (factors_of e) (terms_of e) e.number

-- the same, one of the others last
abbrev pub first_last : Equation → Equation
first_last e = record { first = e.third; second = e.second; third = e.first; number = e.number }

abbrev pub second_last : Equation → Equation
second_last e = record { first = e.first; second = e.third; third = e.second; number = e.number }

abbrev pub IsTurned : Equation → Equation → Type 0
IsTurned e f = (f ≡ e) ⊎ ((f ≡ first_last e) ⊎ (f ≡ second_last e))

-- the term 0
abbrev pub nothing : Product
nothing = record { factor = pos 1; term = Num (pos 0) }

-- two terms, and a third that is 0
abbrev pub with_nothing : Product → Product → ℤ → Equation
with_nothing p q c = record { first = nothing; second = p; third = q; number = c }

-- the same, but that the last term may be 0 where its factor is
abbrev pub IsLessened : Equation → Equation → Type 0
IsLessened e f = (f ≡ e) ⊎ ((e.third.factor ≡ pos 0) × (f ≡ record { first = e.first; second = e.second; third = nothing; number = e.number }))

-- the same, but that each may be 0 where its factor is, and stand in another place
pub record IsCounting (e f : Equation) : Type 0 where
  pub less : Equation
  pub fewer : Equation
  pub third : IsLessened e less
  pub first : IsLessened (first_last less) fewer
  pub second : IsLessened (second_last fewer) f

-- what the parts of a sum say that is to be a number
abbrev pub parts_saying : Parts → ℤ → Saying
parts_saying (Two p q) c = SumByNumbers (p.factor ∷ q.factor ∷ []) (p.term ∷ q.term ∷ []) c
parts_saying (Three p q r) c = SumByNumbers (p.factor ∷ q.factor ∷ r.factor ∷ []) (p.term ∷ q.term ∷ r.term ∷ []) c
