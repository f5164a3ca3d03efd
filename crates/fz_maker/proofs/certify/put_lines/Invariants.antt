use Rattle.std.proofs.Common.{◌≡◌}
use Rattle.fz_maker.specs.Making.{lines_ahead}
use Rattle.fz_maker.proofs.Lines.{IsUnderWay}
use Rattle.fz_maker.proofs.certify.put_lines.Given as goal

-- lines were taken, and what is ahead goes on from them
abbrev pub invariant-lines : goal.invariant-lines
invariant-lines g l = record {
  way : IsUnderWay l.initial.maker l.maker (g.S.Sink.taken l.initial.sink) (g.S.Sink.taken l.sink);
  faults : g.S.Sink.faults l.sink ≡ g.S.Sink.faults l.initial.sink;
}

abbrev pub decreases-lines : goal.decreases-lines
decreases-lines g l = lines_ahead l.maker
