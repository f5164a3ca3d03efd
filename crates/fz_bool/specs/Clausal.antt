-- Clauses: when an assignment makes one true, and its line.
use Rattle.std.specs.Prelude.{ℤ, List}
use Rattle.std.specs.List.{AllByRecursion}
use Rattle.fz_strength.specs.declared.literal.Literal.{Literal}
use Rattle.fz_strength.specs.Events.{IsFixedIn}
use Rattle.fz_strength.specs.Clauses.{ClauseTruth, MakesFalse, IsFalseIn, IsClauseLine}

abbrev pub TruthOf : List Literal → Literal → List ℤ → Type 0
TruthOf ls r a = ClauseTruth (record { literals = ls; result = r }) a

abbrev pub LineOf : List Literal → Literal → List (List (ℤ × ℤ)) → Type 0
LineOf ls r ds = IsClauseLine (record { literals = ls; result = r }) ds

-- all literals are false
abbrev pub AreMadeFalse : List Literal → List ℤ → Type 0
AreMadeFalse ls a = AllByRecursion (MakesFalse a) ls

abbrev pub AreFalseIn : List Literal → List (List (ℤ × ℤ)) → Type 0
AreFalseIn ls ds = AllByRecursion (IsFalseIn ds) ls

-- one number is left of each of these literals
abbrev pub AreFixedLiterals : List (List (ℤ × ℤ)) → List Literal → Type 0
AreFixedLiterals ds ls = AllByRecursion (λ (l : Literal). IsFixedIn ds l.term) ls
