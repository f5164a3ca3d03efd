use Rattle.std.proofs.Common.{◌≡◌, ◌≤◌, length}
use Rattle.fz_io.specs.Buffered.{buffered_taken}
use Rattle.fz_io.proofs.buffered.BufferedSink.drain.Given as goal

abbrev pub invariant-pieces : goal.invariant-pieces
invariant-pieces g l = record {
  taken : buffered_taken g.S.Sink.taken l.self ≡ buffered_taken g.S.Sink.taken l.initial.self;
  flushed : g.S.Sink.flushed l.initial.self.inner ≤ g.S.Sink.flushed l.self.inner;
  faults : g.S.Sink.faults l.self.inner ≡ g.S.Sink.faults l.initial.self.inner;
  refused : l.self.refused ≡ l.initial.self.refused;
  has_failed : l.self.has_failed ≡ l.initial.self.has_failed;
}

abbrev pub decreases-pieces : goal.decreases-pieces
decreases-pieces g l = length l.self.buffer
