use Rattle.std.proofs.Common.{◌≡◌, take, map}
use Rattle.std.specs.List.{fold}
use Rattle.fz_strength.specs.Operations.{low_of, high_of}
use Rattle.fz_arith.specs.Extremes.{pick}
use Rattle.fz_arith.proofs.ends.extreme_bounds.Given as goal

-- the ends of the terms so far
abbrev pub invariant-loop-term : goal.invariant-loop-term
invariant-loop-term l = record {
  low : l.low ≡ fold (pick l.operation) (low_of l.store.doms l.fn.first) (map (low_of l.store.doms) (take l.term-index l.rest));
  high : l.high ≡ fold (pick l.operation) (high_of l.store.doms l.fn.first) (map (high_of l.store.doms) (take l.term-index l.rest));
}
