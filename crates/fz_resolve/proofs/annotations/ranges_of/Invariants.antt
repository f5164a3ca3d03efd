use Rattle.std.proofs.Common.{◌≡◌, ◌≤◌, ◌-◌, length, map, drop}
use Rattle.fz_language.specs.Numerals.{all_of}
use Rattle.fz_language.specs.Annotations.{range_of}
use Rattle.fz_syntax.specs.Trees.{trees_of}
use Rattle.fz_resolve.proofs.AllOf.{with_left}
use Rattle.fz_resolve.proofs.annotations.ranges_of.Given as goal

-- those so far before those that are left
abbrev pub invariant-places : goal.invariant-places
invariant-places l = record {
  within : l.place ≤ length l.arguments;
  parted : with_left l.ranges.items (all_of (map range_of (trees_of (drop l.place l.arguments)))) ≡ all_of (map range_of (trees_of l.arguments));
}

abbrev pub decreases-places : goal.decreases-places
decreases-places l = length l.arguments - l.place
