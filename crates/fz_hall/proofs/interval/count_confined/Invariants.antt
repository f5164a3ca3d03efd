use Rattle.std.proofs.Common.{take}
use Rattle.std.specs.Prelude.{◌≡◌, ◌≤◌, count_by}
use Rattle.fz_strength.specs.Differences.{is_confined}
use Rattle.fz_hall.proofs.interval.count_confined.Given as goal

-- those so far
abbrev pub invariant-loop-term : goal.invariant-loop-term
invariant-loop-term l = record {
  count : l.count ≡ count_by (is_confined l.store.doms l.interval.low l.interval.high) (take l.term-index l.terms);
  few : l.count ≤ l.term-index;
}
