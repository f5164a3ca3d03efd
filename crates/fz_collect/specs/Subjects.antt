-- What several workers search.
use Rattle.std.specs.Prelude.{◌≡◌, []}
use Rattle.fz_spec.specs.Instance.{Instance}
use Rattle.fz_spec.specs.declared.goal.Goal.TheVariants.{Satisfy}
use Rattle.fz_tree.specs.declared.mode.Mode.{Mode}
use Rattle.fz_tree.specs.Account.{Account}
use Rattle.fz_tree.specs.Book.{Book}

-- of this model and mode
abbrev pub IsAbout : Instance → Mode → Account → Type 0
IsAbout m mode c = (c.model ≡ m) × (c.mode ≡ mode)

abbrev pub IsBookOf : Instance → Mode → Book → Type 0
IsBookOf m mode b = (b.model ≡ m) × (b.mode ≡ mode)

-- a model of nothing
abbrev pub empty_model : Instance
empty_model = record { variables = []; constraints = []; goal = Satisfy; outputs = []; search = [] }
