-- Sets with their ends.
use Rattle.std.specs.Prelude.{ℤ, ◌≤ℤ◌, List}
use Rattle.fz_sets.specs.Sets.{IsInSet}
use Rattle.fz_dom.specs.Shape.{least, greatest}

-- its least and its greatest are in it, and all its numbers lie between them
pub record IsSpanned (d : List (ℤ × ℤ)) : Type 0 where
  pub low : IsInSet d (least d)
  pub high : IsInSet d (greatest d)
  pub above : (x : ℤ) → IsInSet d x → least d ≤ℤ x
  pub below : (x : ℤ) → IsInSet d x → x ≤ℤ greatest d
