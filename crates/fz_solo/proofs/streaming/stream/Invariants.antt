use Rattle.std.proofs.Common.{◌≡◌, IfSome, None, length}
use Rattle.fz_book.specs.Reports.{IsReportable}
use Rattle.fz_path.specs.Paths.{bare}
use Rattle.fz_printer.specs.Printed.{book_of, stopped_of, IsReady}
use Rattle.fz_solo.specs.Streamed.{Streams}
use Rattle.fz_solo.proofs.streaming.stream.Given as goal

abbrev pub invariant-parts : goal.invariant-parts
invariant-parts g l = record {
  working : stopped_of l.printer ≡ None;
  ready : IsReady l.printer;
  held : IfSome l.path.held (IsReportable (book_of l.printer));
  model : l.path.model ≡ (book_of l.printer).model;
  mode : l.path.mode ≡ (book_of l.printer).mode;
  faults : g.K.Sink.faults l.sink ≡ g.K.Sink.faults l.initial.sink;
  streams : Streams l.initial.printer (bare l.initial.path) (g.K.Sink.taken l.initial.sink) l.printer (bare l.path) (g.K.Sink.taken l.sink);
}

abbrev pub decreases-parts : goal.decreases-parts
decreases-parts g l = length (book_of l.printer).parts
