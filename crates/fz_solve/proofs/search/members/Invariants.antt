use Rattle.std.proofs.Common.{◌≡◌, ◌≤◌, ◌-◌, length, map, option_map, drop}
use Rattle.fz_language.specs.Numerals.{all_of}
use Rattle.fz_language.specs.Search as searches
use Rattle.fz_syntax.specs.Trees.{trees_of}
use Rattle.fz_resolve.specs.Meant.{environment_of}
use Rattle.fz_solve.proofs.SearchLaws.{with_left}
use Rattle.fz_solve.proofs.search.members.Given as goal

-- those so far before those that are left
abbrev pub invariant-places : goal.invariant-places
invariant-places l = record {
  within : l.place ≤ length l.arguments;
  parted : with_left l.variables.items (all_of (map (searches.member (environment_of l.names)) (trees_of (drop l.place l.arguments))))
      ≡ option_map searches.joined (all_of (map (searches.member (environment_of l.names)) (trees_of l.arguments)));
}

abbrev pub decreases-places : goal.decreases-places
decreases-places l = length l.arguments - l.place
