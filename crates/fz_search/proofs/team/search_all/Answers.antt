use Rattle.std.proofs.Common.{◌≡◌, None, rules}
use Rattle.fz_path.specs.Paths.{bare}
use Rattle.fz_printer.specs.Printed.{stopped_of}
use Rattle.fz_search.proofs.Searches.{streamed_behind}
use Rattle.fz_search.proofs.team.search_all.Goals as goal

pub returns-clause-gathers : goal.returns-clause-gathers
returns-clause-gathers g c =
    let none : stopped_of c.search_together.new.printer ≡ None = search rules in
    streamed_behind c.args.printer.now c.search_together.new.printer c.stream.new.printer (bare c.args.path.now) (bare c.stream.new.path) (g.K.Sink.taken c.args.sink.now) (g.K.Sink.taken c.search_together.new.sink) (g.K.Sink.taken c.stream.new.sink)
    (g.K.Sink.faults c.args.sink.now) (g.K.Sink.faults c.search_together.new.sink) (g.K.Sink.faults c.stream.new.sink) c.search_together.ensures none c.stream.ensures.streams c.stream.ensures.ready c.stream.ensures.cause
