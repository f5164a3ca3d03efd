use Rattle.std.proofs.Common.{take}
use Rattle.fz_agenda.specs.Queues.{IsWoken}
use Rattle.fz_agenda.specs.Wakes.{AreWatchersAwake, IsWatching}
use Rattle.fz_agenda.proofs.watches.wake_watching.Given as goal

-- those so far that look now are awake
abbrev pub invariant-loop-watch : goal.invariant-loop-watch
invariant-loop-watch l = record {
  woken : IsWoken (IsWatching l.store.doms l.watches) l.costs l.initial.agenda l.agenda;
  awake : AreWatchersAwake l.store.doms l.agenda.states (take l.watch-index l.watches);
}
