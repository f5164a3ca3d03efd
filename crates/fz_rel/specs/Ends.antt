-- The ends of what is left of a term.
use Rattle.std.specs.Prelude.{◌≡◌, ℤ, List}
use Rattle.fz_dom.specs.Shape.{least, greatest}
use Rattle.fz_rel.specs.declared.ends.Ends.{Ends}

pub record AreEnds (ends : Ends) (d : List (ℤ × ℤ)) : Type 0 where
  pub low : ends.low ≡ least d
  pub high : ends.high ≡ greatest d
