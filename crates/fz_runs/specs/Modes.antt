-- What a search of a model seeks, by the options.
use Rattle.std.specs.Prelude.{Bool, true, false}
use Rattle.fz_spec.specs.declared.goal.Goal.{Goal}
use Rattle.fz_spec.specs.declared.goal.Goal.TheVariants.{Satisfy, Minimize, Maximize}
use Rattle.fz_tree.specs.declared.mode.Mode.{Mode}
use Rattle.fz_tree.specs.declared.mode.Mode.TheVariants.{All, Rows, Best}
use Rattle.fz_cmd.specs.Meaning.{Options}

-- all solutions, or each of their rows
abbrev pub mode_of : Bool → Mode
mode_of true = Rows
mode_of false = All

abbrev pub mode_for : Goal → Options → Mode
mode_for Satisfy o = mode_of o.distinct
mode_for (Minimize goal) o = Best
mode_for (Maximize goal) o = Best
