-- What is seen of a relation of two terms by what is left of them.
use Rattle.std.specs.Prelude.{ℤ, pos, ◌+ℤ◌, ◌≤ℤ◌, List}
use Rattle.fz_sets.specs.Sets.{IsInSet}
use Rattle.fz_dom.specs.Shape.{least, greatest}
use Rattle.fz_spec.specs.declared.shape.Relation.{Relation}
use Rattle.fz_spec.specs.Truth.{Relates}

-- all numbers of two sets are so related, and none are
abbrev pub AreAll : Relation → List (ℤ × ℤ) → List (ℤ × ℤ) → Type 0
AreAll relation d e = (u w : ℤ) → IsInSet d u → IsInSet e w → Relates relation u w

abbrev pub AreNone : Relation → List (ℤ × ℤ) → List (ℤ × ℤ) → Type 0
AreNone relation d e = (u w : ℤ) → IsInSet d u → IsInSet e w → Relates relation u w → ⊥

-- the numbers from end to end are at most 64
abbrev pub IsNarrow : List (ℤ × ℤ) → Type 0
IsNarrow d = greatest d ≤ℤ (least d +ℤ pos 63)
