use Rattle.std.proofs.Common.{◌≡◌, IsSomeAnd, None, length}
use Rattle.fz_book.specs.Reports.{IsReportable}
use Rattle.fz_path.specs.Paths.{bare}
use Rattle.fz_printer.specs.Printed.{book_of, stopped_of, IsReady}
use Rattle.fz_solo.specs.Walks.{weight_held}
use Rattle.fz_printer.specs.Gathered.{IsFilled}
use Rattle.fz_solo.specs.Streamed.{Streams}
use Rattle.fz_solo.proofs.streaming.search_part.Given as goal

abbrev pub invariant-stretches : goal.invariant-stretches
invariant-stretches g l = record {
  working : stopped_of l.printer ≡ None;
  ready : IsReady l.printer;
  more : IsFilled l.printer → ⊥;
  held : IsSomeAnd l.path.held (IsReportable (book_of l.printer));
  model : l.path.model ≡ (book_of l.printer).model;
  mode : l.path.mode ≡ (book_of l.printer).mode;
  path : l.path.model ≡ l.initial.path.model;
  path_mode : l.path.mode ≡ l.initial.path.mode;
  faults : g.K.Sink.faults l.sink ≡ g.K.Sink.faults l.initial.sink;
  parts : length (book_of l.printer).parts ≡ length (book_of l.initial.printer).parts;
  streams : Streams l.initial.printer (bare l.initial.path) (g.K.Sink.taken l.initial.sink) l.printer (bare l.path) (g.K.Sink.taken l.sink);
}

abbrev pub decreases-stretches : goal.decreases-stretches
decreases-stretches g l = weight_held l.path.held
