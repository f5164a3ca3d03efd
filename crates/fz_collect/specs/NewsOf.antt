-- What a collector is told.
use Rattle.fz_spec.specs.Instance.{Instance, Satisfies}
use Rattle.fz_tree.specs.declared.mode.Mode.{Mode}
use Rattle.fz_collect.specs.declared.collect.News.{News}
use Rattle.fz_collect.specs.declared.collect.News.TheVariants.{Taken, Better}
use Rattle.fz_collect.specs.Subjects.{IsAbout}

-- an account of this model and mode, or an assignment that satisfies the model
abbrev pub IsNewsOf : Instance → Mode → News → Type 0
IsNewsOf m mode (Taken account) = IsAbout m mode account
IsNewsOf m mode (Better assignment) = Satisfies m assignment
