use Rattle.std.proofs.Common.{◌≡◌, length, take}
use Rattle.fz_says.specs.Said.{waits_in}
use Rattle.fz_agenda.specs.Wakes.{HaveSize, Extends, IsListedAt}
use Rattle.fz_engine.proofs.network.list.Given as goal

-- the changes so far are listed
abbrev pub invariant-loop-wait : goal.invariant-loop-wait
invariant-loop-wait l = record {
  size : HaveSize l.wakes (length l.initial.wakes.any);
  extends : Extends l.initial.wakes l.wakes;
  listed : IsListedAt l.wakes l.place (waits_in (take l.wait-index l.waits));
  costs : l.wakes.costs ≡ l.initial.wakes.costs;
}
