-- What is left of literals.
use Rattle.std.specs.Prelude.{◌≡◌, ◌≢◌, ℕ, ℤ, List, length, slice_get, Some}
use Rattle.std.specs.List.{AllByRecursion}
use Rattle.fz_spec.specs.Truth.{SomeByRecursion}
use Rattle.fz_strength.specs.declared.literal.Literal.{Literal}
use Rattle.fz_strength.specs.Events.{IsFixedIn}
use Rattle.fz_strength.specs.Promises.{IsTruth}
use Rattle.fz_strength.specs.Clauses.{IsTrueIn, IsUntrueIn, AreOthersUntrue}
use Rattle.fz_strength.specs.Domains.{IsTermOf}
use Rattle.fz_bool.specs.declared.literals.State.{State}
use Rattle.fz_bool.specs.declared.literals.State.TheVariants.{True, False, Open}
use Rattle.fz_bool.specs.declared.literals.Left.{Left}
use Rattle.fz_bool.specs.declared.literals.Left.TheVariants.{Held, Nothing, Last, More}

-- the terms of literals are terms of the store
abbrev pub AreTermsOf : List (List (ℤ × ℤ)) → List Literal → Type 0
AreTermsOf ds ls = AllByRecursion (λ (l : Literal). IsTermOf (length ds) l.term) ls

-- a literal of a term of the store, of which only 0 and 1 are left
abbrev pub IsLiteralOf : List (List (ℤ × ℤ)) → Literal → Type 0
IsLiteralOf ds l = IsTermOf (length ds) l.term × IsTruth ds l.term

abbrev pub AreLiteralsOf : List (List (ℤ × ℤ)) → List Literal → Type 0
AreLiteralsOf ds ls = AllByRecursion (IsLiteralOf ds) ls

-- more than one number is left of it
abbrev pub IsOpen : List (List (ℤ × ℤ)) → Literal → Type 0
IsOpen ds l = IsFixedIn ds l.term → ⊥

-- it is true, it is not, or it is open
abbrev pub IsStateOf : State → List (List (ℤ × ℤ)) → Literal → Type 0
IsStateOf True ds l = IsTrueIn ds l
IsStateOf False ds l = IsUntrueIn ds l
IsStateOf Open ds l = IsOpen ds l

-- it is open, and all others may no longer get true
pub record IsLastOf (ds : List (List (ℤ × ℤ))) (ls : List Literal) (l : Literal) : Type 0 where
  pub place : ℕ
  pub at : slice_get ls place ≡ Some l
  pub unfixed : IsOpen ds l
  pub others : AreOthersUntrue ds ls place

-- at two places there are open literals
pub record HasTwoOpen (ds : List (List (ℤ × ℤ))) (ls : List Literal) : Type 0 where
  pub first : ℕ
  pub second : ℕ
  pub apart : first ≢ second
  pub one : Literal
  pub other : Literal
  pub at_first : slice_get ls first ≡ Some one
  pub at_second : slice_get ls second ≡ Some other
  pub one_open : IsOpen ds one
  pub other_open : IsOpen ds other

-- what is left of literals where one is to be true
abbrev pub IsLeft : Left → List (List (ℤ × ℤ)) → List Literal → Type 0
IsLeft Held ds ls = SomeByRecursion (IsTrueIn ds) ls
IsLeft Nothing ds ls = AllByRecursion (IsUntrueIn ds) ls
IsLeft (Last l) ds ls = IsLastOf ds ls l
IsLeft More ds ls = HasTwoOpen ds ls

-- one of the literals is true, none may still get true, or neither
abbrev pub IsTruthAmong : State → List (List (ℤ × ℤ)) → List Literal → Type 0
IsTruthAmong True ds ls = SomeByRecursion (IsTrueIn ds) ls
IsTruthAmong False ds ls = AllByRecursion (IsUntrueIn ds) ls
IsTruthAmong Open ds ls = (SomeByRecursion (IsTrueIn ds) ls → ⊥) × (AllByRecursion (λ (l : Literal). IsFixedIn ds l.term) ls → ⊥)
