use Rattle.std.proofs.Common.{◌≡◌, take}
use Rattle.std.specs.List.{AllByRecursion}
use Rattle.fz_hall.specs.Lefts.{IsSpreadTo}
use Rattle.fz_hall.proofs.scan.keep_from_low.Given as goal

-- nothing changed, and none of the intervals so far has too many
abbrev pub invariant-loop-term : goal.invariant-loop-term
invariant-loop-term l = record {
  same : l.store ≡ l.initial.store;
  spread : AllByRecursion (IsSpreadTo l.terms l.store.doms l.low) (take l.term-index l.terms);
}
