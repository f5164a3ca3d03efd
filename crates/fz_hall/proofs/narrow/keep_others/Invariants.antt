use Rattle.std.proofs.Common.{◌≡◌, false, take}
use Rattle.std.specs.List.{AllByRecursion}
use Rattle.fz_strength.specs.Differences.{IsClear}
use Rattle.fz_prop.proofs.Keeping.{IsKept}
use Rattle.fz_hall.proofs.Outside.{IsGiven}
use Rattle.fz_hall.proofs.narrow.keep_others.Given as goal

-- nothing that is different is lost, and whether the store changed; if not, those so far stay out
abbrev pub invariant-loop-term : goal.invariant-loop-term
invariant-loop-term l = record {
  kept : IsKept (IsGiven l.terms l.initial.store) l.initial.store l.store l.has_changed;
  clear : l.has_changed ≡ false → AllByRecursion (IsClear l.store.doms l.interval.low l.interval.high) (take l.term-index l.terms);
}
