-- What is said as its truth and its line: when two say the same, when it is about one term, and with a Boolean that says whether
-- it is true.
use Rattle.std.specs.Prelude.{ℤ, ◌<◌, ◌↔◌, List, length}
use Rattle.fz_sets.specs.Sets.{IsInSet, AreRanges}
use Rattle.fz_spec.specs.declared.term.Term.{Term}
use Rattle.fz_spec.specs.Constraints.{term_value}
use Rattle.fz_spec.specs.Truth.{IsReified}
use Rattle.fz_strength.specs.Domains.{term_set, AreDomains, Within, IsNarrower}
use Rattle.fz_strength.specs.Lines.{IsReifiedLine}

-- This truth is the same as that one, and that line follows from this one.
pub record IsSame (T U : List ℤ → Type 0) (R Q : List (List (ℤ × ℤ)) → Type 0) : Type 0 where
  pub truth : (a : List ℤ) → T a ↔ U a
  pub line : (ds : List (List (ℤ × ℤ))) → R ds → Q ds

-- What makes a constraint with this truth and this line one about the numbers of a term: an assignment makes it true exactly
-- where the term's number has the property, and the line holds where all numbers of the term have it.
pub record IsAbout (t : Term) (P : ℤ → Type 0) (T : List ℤ → Type 0) (R : List (List (ℤ × ℤ)) → Type 0) (ds : List (List (ℤ × ℤ))) : Type 0 where
  pub needs : (a : List ℤ) → Within ds a → T a → P (term_value a t)
  pub enough : (a : List ℤ) → Within ds a → P (term_value a t) → T a
  pub line : (es : List (List (ℤ × ℤ))) → AreDomains es → IsNarrower ds es → ((x : ℤ) → IsInSet (term_set es t) x → P x) → R es

pub record HasRanges (d : List (ℤ × ℤ)) : Type 0 where
  pub ranges : AreRanges d
  pub some : 0 < length d

-- ---- with a Boolean

-- what shows a constraint, what refutes it, its line, and the line where it is to be false, of what is left
pub record Sides : Type 1 where
  pub shown : List (List (ℤ × ℤ)) → Type 0
  pub refuted : List (List (ℤ × ℤ)) → Type 0
  pub line : List (List (ℤ × ℤ)) → Type 0
  pub against : List (List (ℤ × ℤ)) → Type 0

-- no domains that are narrower have a line, and what speaks against it
pub record AreSides (s : Sides) (ds : List (List (ℤ × ℤ))) : Type 0 where
  pub one : (es : List (List (ℤ × ℤ))) → AreDomains es → IsNarrower ds es → s.line es → s.refuted es → ⊥
  pub zero : (es : List (List (ℤ × ℤ))) → AreDomains es → IsNarrower ds es → s.against es → s.shown es → ⊥

-- r is 1 exactly where the assignment makes this true
abbrev pub TruthWith : (List ℤ → Type 0) → Term → List ℤ → Type 0
TruthWith T r a = IsReified (T a) (term_value a r)

abbrev pub LineWith : Sides → Term → List (List (ℤ × ℤ)) → Type 0
LineWith s r ds = IsReifiedLine (s.shown ds) (s.refuted ds) (s.line ds) (s.against ds) (term_set ds r)
