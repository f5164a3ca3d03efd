use Rattle.std.proofs.Common.{◌≡◌, take}
use Rattle.fz_spec.specs.Run.{blocks}
use Rattle.fz_io.specs.Outside.{with_more}
use Rattle.fz_printer.proofs.printing.print_blocks.Given as goal

-- the blocks of those so far are taken
abbrev pub invariant-loop-assignment : goal.invariant-loop-assignment
invariant-loop-assignment g l = record {
  taken : g.S.Sink.taken l.sink ≡ with_more (g.S.Sink.taken l.initial.sink) (blocks l.model (take l.assignment-index l.found));
  faults : g.S.Sink.faults l.sink ≡ g.S.Sink.faults l.initial.sink;
}
