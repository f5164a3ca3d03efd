use Rattle.std.proofs.Common.{◌≡◌, ◌≤◌, ◌-◌, length, take}
use Rattle.fz_io.specs.Outside.{with_more}
use Rattle.fz_io.proofs.whole.put_all.Given as goal

abbrev pub invariant-pieces : goal.invariant-pieces
invariant-pieces g l = record {
  within : l.at ≤ length l.piece;
  taken : g.S.Sink.taken l.sink ≡ with_more (g.S.Sink.taken l.initial.sink) (take l.at l.piece);
  flushed : g.S.Sink.flushed l.initial.sink ≤ g.S.Sink.flushed l.sink;
  faults : g.S.Sink.faults l.sink ≡ g.S.Sink.faults l.initial.sink;
}

abbrev pub decreases-pieces : goal.decreases-pieces
decreases-pieces g l = length l.piece - l.at
