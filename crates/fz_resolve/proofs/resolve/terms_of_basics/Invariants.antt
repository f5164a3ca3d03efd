use Rattle.std.proofs.Common.{◌≡◌, take, map, Ok}
use Rattle.fz_language.specs.Entries.{term_in, each_of}
use Rattle.fz_syntax.specs.Trees.{basic_of}
use Rattle.fz_resolve.specs.Meant.{environment_of}
use Rattle.fz_resolve.proofs.resolve.terms_of_basics.Given as goal

-- those so far
abbrev pub invariant-loop-basic : goal.invariant-loop-basic
invariant-loop-basic l = each_of (term_in (environment_of l.names) l.asked) (map basic_of (take l.basic-index l.basics)) ≡ Ok l.terms.items
