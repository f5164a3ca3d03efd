-- Plainer forms of what is said.
use Rattle.std.specs.Prelude.{◌≡◌, ◌⊎◌, ◌*ℤ◌, ◌≤◌, ◌^◌, ℕ, Bool, true, false, ℤ, pos, nat_abs, List, [], ◌∷◌, length, sum_by, nat_eq, if◌then◌else◌, Option, Some, None}
use Rattle.std.specs.List.{AllByRecursion}
use Rattle.fz_spec.specs.declared.term.Term.{Term}
use Rattle.fz_spec.specs.declared.term.Term.TheVariants.{Num, Var}
use Rattle.fz_spec.specs.Constraints.{term_values}
use Rattle.fz_spec.specs.Instance.{Variable}
use Rattle.fz_spec.specs.Truth.{weighted_sum, Relates}
use Rattle.fz_spec.specs.declared.shape.Operation.{Operation}
use Rattle.fz_spec.specs.declared.shape.Operation.TheVariants.{Plus, Times, Quotient, Remainder, Abs, Min, Max}
use Rattle.fz_spec.specs.declared.shape.Relation.{Relation}
use Rattle.fz_spec.specs.declared.shape.Relation.TheVariants.{Equal, NotEqual}
use Rattle.fz_strength.specs.Events.{variables_of}
use Rattle.fz_strength.specs.Operations.{equation}
use Rattle.fz_strength.specs.Sayings.{Saying, Compare, CompareIf, Member, Sum, SumIf, Equals, truth_of}
use Rattle.fz_strength.specs.Sums.{left_factors, left_terms, right_number}
use Rattle.fz_says.specs.Fits.{IsFit, IsKnown}
use Rattle.fz_plain.specs.declared.plain.Plain.{Plain}
use Rattle.fz_plain.specs.declared.plain.Plain.TheVariants as code

-- ---- what a plainer form is

-- A division asks besides that its divisor isn't 0.
abbrev pub IsDivision : Saying → Type 0
IsDivision (Equals e) = (e.operation ≡ Quotient) ⊎ (e.operation ≡ Remainder)
IsDivision s = ⊥

-- Whatever makes the first true makes the second true, and, but for a division, the other way round; the second fits each model that the
-- first fits.
pub record IsPlainOf (s t : Saying) : Type 0 where
  pub follows : (a : List ℤ) → truth_of s a → truth_of t a
  pub same : (IsDivision s → ⊥) → (a : List ℤ) → truth_of t a → truth_of s a
  pub fits : (vs : List Variable) → IsFit vs s → IsFit vs t

-- the sum of other factors and terms is always the same; these terms are no more, and of each model that has those
pub record IsSameSum (ks : List ℤ) (ts : List Term) (ls : List ℤ) (us : List Term) : Type 0 where
  pub size : length ls ≡ length us
  pub few : length us ≤ length ts
  pub same : (a : List ℤ) → weighted_sum ls (term_values a us) ≡ weighted_sum ks (term_values a ts)
  pub known : (vs : List Variable) → AllByRecursion (IsKnown vs) ts → AllByRecursion (IsKnown vs) us

-- whatever its values, it is so, or it isn't
abbrev pub IsDecided : Bool → (List ℤ → Type 0) → Type 0
IsDecided true T = (a : List ℤ) → T a
IsDecided false T = (a : List ℤ) → T a → ⊥

abbrev pub IsMultipleOf : ℤ → ℤ → Type 0
IsMultipleOf divisor n = (quotient : ℤ) × (n ≡ quotient *ℤ divisor)

-- a sum of such terms is so related to a number
abbrev pub SumRelates : Relation → List ℤ → List Term → ℤ → List ℤ → Type 0
SumRelates relation ks ts c a = Relates relation (weighted_sum ks (term_values a ts)) c

-- a term is 1, or it isn't
abbrev pub told_by : Bool → Term → Saying
told_by true r = Compare Equal r (Num (pos 1))
told_by false r = Compare NotEqual r (Num (pos 1))

-- ---- what has one

-- both are one variable
abbrev pub IsTwice : Term → Term → Type 0
IsTwice s t = (v : ℕ) × (s ≡ Var v) × (t ≡ Var v)

-- how often a number stands in a list
abbrev pub counts : ℕ → ℕ → ℕ
counts v x = if nat_eq x v then 1 else 0

abbrev pub times : ℕ → List ℕ → ℕ
times v xs = sum_by (counts v) xs

-- a variable stands twice among these
abbrev pub HasTwice : List Term → Type 0
HasTwice ts = (v : ℕ) × (2 ≤ times v (variables_of ts))

-- the same sum without a variable that stands twice
pub record IsGathered (ks : List ℤ) (ts : List Term) (ls : List ℤ) (us : List Term) : Type 0 where
  pub twice : HasTwice ts
  pub sum : IsSameSum ks ts ls us
  pub once : HasTwice us → ⊥

-- a relation that no number has to itself
abbrev pub IsNeverSame : Relation → Type 0
IsNeverSame relation = (n : ℤ) → Relates relation n n → ⊥

-- a divisor of all factors isn't one of the number
abbrev pub IsOff : List ℤ → ℤ → Type 0
IsOff ks c = (d : ℤ) × AllByRecursion (IsMultipleOf d) ks × (IsMultipleOf d c → ⊥)

-- that tells whether the sum is the number
abbrev pub IsToldOff : Bool → Relation → Type 0
IsToldOff false relation = relation ≡ Equal
IsToldOff true relation = relation ≡ NotEqual

-- The divisors of the factors tell that a sum is so related to a number, or that it isn't: where all factors are 0, by 0 itself.
abbrev pub IsToldByDivisor : Bool → Relation → List ℤ → ℤ → Type 0
IsToldByDivisor b relation ks c =
    (AllByRecursion (λ (k : ℤ). k ≡ pos 0) ks × IsDecided b (λ (a : List ℤ). Relates relation (pos 0) c)) ⊎ (IsToldOff b relation × IsOff ks c)

-- the factors together may be beyond 32 bits
abbrev pub AreLarge : List ℤ → Type 0
AreLarge ks = 2 ^ 31 ≤ sum_by nat_abs ks

abbrev pub HasPlainerSum : Relation → List ℤ → List Term → ℤ → Type 0
HasPlainerSum relation ks ts c = HasTwice ts ⊎ IsToldByDivisor false relation ks c

abbrev pub HasPlainerEquation : Operation → List Term → Term → Type 0
HasPlainerEquation Plus (x ∷ y ∷ []) z = HasPlainerSum Equal (left_factors (pos 1 ∷ pos 1 ∷ []) z) (left_terms (x ∷ y ∷ []) z) (right_number z)
HasPlainerEquation Times (x ∷ y ∷ []) z = IsTwice x y × IsTwice x z
HasPlainerEquation Quotient (x ∷ y ∷ []) z = IsTwice x y
HasPlainerEquation Remainder (x ∷ y ∷ []) z = IsTwice y z ⊎ IsTwice x y
HasPlainerEquation Abs (x ∷ []) z = IsTwice x z
HasPlainerEquation Min (x ∷ y ∷ []) z = IsTwice x y ⊎ IsTwice x z ⊎ IsTwice y z
HasPlainerEquation Max (x ∷ y ∷ []) z = IsTwice x y ⊎ IsTwice x z ⊎ IsTwice y z
HasPlainerEquation operation xs z = ⊥

-- What has a plainer form: a relation of a variable to itself, where it isn't always true; a sum or an operation in which a variable
-- stands twice, as far as one without has a shape; and a sum whose divisor decides.
abbrev pub HasPlainer : Saying → Type 0
HasPlainer (Compare relation x y) = IsTwice x y × IsNeverSame relation
HasPlainer (CompareIf relation x y r) = IsTwice x y
HasPlainer (Sum relation ks ts c) = HasPlainerSum relation ks ts c
HasPlainer (SumIf relation ks ts c r) = HasTwice ts ⊎ ((b : Bool) × IsToldByDivisor b relation ks c)
HasPlainer (Equals e) = HasPlainerEquation e.operation e.operands e.result
HasPlainer s = ⊥

-- a sum whose factors together may be too large for its plainer form
abbrev pub IsLarge : Saying → Type 0
IsLarge (Sum relation ks ts c) = AreLarge ks
IsLarge (SumIf relation ks ts c r) = AreLarge ks
IsLarge s = ⊥

-- what is said in the second is a plainer form of the first, which has no plainer one
pub record IsPlainForm (s t : Saying) : Type 0 where
  pub form : IsPlainOf s t
  pub plainer : HasPlainer s
  pub plain : HasPlainer t → ⊥

abbrev pub plain_said : Plain → Saying
plain_said (code.Compare relation x y) = Compare relation x y
plain_said (code.Member x set) = Member x set.value
plain_said (code.Sum relation ks ts c) = Sum relation ks.items ts.items c
plain_said (code.SumIf relation ks ts c r) = SumIf relation ks.items ts.items c r
plain_said (code.Equals operation xs z) = Equals (equation operation xs.items z)

-- a plainer form where it has one; of a sum whose factors are large there may be none
abbrev pub IsPlainest : Saying → Option Plain → Type 0
IsPlainest s (Some p) = IsPlainForm s (plain_said p)
IsPlainest s None = HasPlainer s → IsLarge s
