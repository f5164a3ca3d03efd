-- A term in a set: when an assignment makes it true, and its line.
use Rattle.std.specs.Prelude.{ℤ, List}
use Rattle.fz_sets.specs.Sets.{IsInSet}
use Rattle.fz_spec.specs.declared.term.Term.{Term}
use Rattle.fz_spec.specs.Constraints.{term_value}
use Rattle.fz_strength.specs.Domains.{term_set}
use Rattle.fz_dom.specs.declared.change.Change.{Change}
use Rattle.fz_dom.specs.declared.change.Change.TheVariants.{Same, Changed, Wiped}
use Rattle.fz_strength.specs.Memberships.{LiesIn, LiesOutside}

abbrev pub IsMember : Term → List (ℤ × ℤ) → List ℤ → Type 0
IsMember x set a = IsInSet set (term_value a x)

abbrev pub MemberLine : Term → List (ℤ × ℤ) → List (List (ℤ × ℤ)) → Type 0
MemberLine x set ds = LiesIn (term_set ds x) set

-- whether all numbers of d are in the set, none, or some and not all
abbrev pub IsOverlap : Change → List (ℤ × ℤ) → List (ℤ × ℤ) → Type 0
IsOverlap Same d set = LiesIn d set
IsOverlap Wiped d set = LiesOutside d set
IsOverlap Changed d set = (LiesIn d set → ⊥) × (LiesOutside d set → ⊥)
