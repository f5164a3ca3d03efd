use Rattle.std.proofs.Common.{◌≡◌, ◌<◌, take}
use Rattle.fz_strength.specs.Operations.{least_size}
use Rattle.fz_arith.proofs.ends.least_size_of_ranges.Given as goal

-- the least size of the ranges so far
abbrev pub invariant-sizes : goal.invariant-sizes
invariant-sizes l = record {
  some : 0 < l.index;
  least : l.least ≡ least_size (take l.index l.set);
}
