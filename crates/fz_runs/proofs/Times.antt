-- How often a solution is listed, as books count it.
use Rattle.std.proofs.Common.{◌≡◌, refl, Bool, true, false, List}
use Rattle.std.specs.Prelude.{ℤ}
use Rattle.fz_spec.specs.Instance.{Instance}
use Rattle.fz_tree.specs.Account.{times_found}
use Rattle.fz_runs.specs.Runs.{times_listed}
use Rattle.fz_runs.specs.Modes.{mode_of}

pub times_are : (distinct : Bool) (m : Instance) (a : List ℤ) (l : List (List ℤ)) → times_listed distinct m a l ≡ times_found (mode_of distinct) m a l
times_are true m a l = refl
times_are false m a l = refl
