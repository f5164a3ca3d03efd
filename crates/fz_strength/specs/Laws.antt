-- Laws that lines keep.
use Rattle.std.specs.Prelude.{◌↔◌, ◌≡◌, ◌<◌, ℤ, List, length}
use Rattle.fz_sets.specs.Sets.{IsInSet, IsInRange}
use Rattle.fz_dom.specs.Shape.{IsDomain}
use Rattle.fz_spec.specs.Constraints.{Constraint, IsTrueOf}
use Rattle.fz_strength.specs.Domains.{AreDomains, Alone, IsNarrower}
use Rattle.fz_strength.specs.Events.{AreQuiet, AreBelow}
use Rattle.fz_spec.specs.Truth.{size_of}
use Rattle.fz_strength.specs.Operations.{least_size, greatest_size}
use Rattle.fz_strength.specs.Sayings.{Rests, waits, saying_of, truth_of}

-- what may break a line is all that does
abbrev pub KeptWhereQuiet : Type 0
KeptWhereQuiet = (c : Constraint) (ds es : List (List (ℤ × ℤ))) → AreDomains es → IsNarrower ds es → AreQuiet (waits c) ds es → Rests c ds → Rests c es

-- where one number is left of each variable, a line says that the constraint is true
abbrev pub TrueWhereAlone : Type 0
TrueWhereAlone = (c : Constraint) (ds : List (List (ℤ × ℤ))) (a : List ℤ) → AreBelow (waits c) (length ds) → Alone ds a → Rests c ds → IsTrueOf a c

-- a constraint is true exactly where what it says is
abbrev pub IsSaid : Type 0
IsSaid = (c : Constraint) (a : List ℤ) → IsTrueOf a c ↔ truth_of (saying_of c) a

-- two sizes of numbers of a set between which all of them lie
pub record HasSizes (d : List (ℤ × ℤ)) (low high : ℤ) : Type 0 where
  pub least : (x : ℤ) × IsInSet d x × (size_of x ≡ low)
  pub greatest : (x : ℤ) × IsInSet d x × (size_of x ≡ high)
  pub between : (x : ℤ) → IsInSet d x → IsInRange (low, high) (size_of x)

-- the bounds of an absolute value are the least and the greatest size that is left
abbrev pub SizesOfSets : Type 0
SizesOfSets = (d : List (ℤ × ℤ)) → IsDomain d → 0 < length d → HasSizes d (least_size d) (greatest_size d)
