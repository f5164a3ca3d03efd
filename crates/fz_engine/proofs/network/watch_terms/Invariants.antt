use Rattle.std.proofs.Common.{◌≡◌, length}
use Rattle.fz_agenda.specs.Wakes.{Extends, HaveSize}
use Rattle.fz_engine.proofs.Watching.{AreWatched}
use Rattle.fz_engine.proofs.network.watch_terms.Given as goal

-- the terms so far are watched
abbrev pub invariant-loop-i : goal.invariant-loop-i
invariant-loop-i l = record {
  size : HaveSize l.wakes (length l.initial.wakes.any);
  extends : Extends l.initial.wakes l.wakes;
  watched : AreWatched l.wakes l.place l.index l.terms l.i;
  costs : l.wakes.costs ≡ l.initial.wakes.costs;
}
