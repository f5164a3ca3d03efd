use Rattle.std.proofs.Common.{◌≡◌, take, map, List}
use Rattle.std.specs.Prelude.{ℤ, Ok}
use Rattle.fz_language.specs.Entries.{set_of, each_of}
use Rattle.fz_syntax.specs.Trees.{basic_of}
use Rattle.fz_resolve.specs.Meant.{environment_of}
use Rattle.fz_check.proofs.entered.sets_of_basics.Given as goal

-- all so far are sets
abbrev pub invariant-loop-basic : goal.invariant-loop-basic
invariant-loop-basic l = (ss : List (List (ℤ × ℤ))) × (each_of (set_of (environment_of l.names)) (map basic_of (take l.basic-index l.basics)) ≡ Ok ss)
