use Rattle.fz_printer.specs.Printed.{book_of}
use Rattle.fzn.proofs.Endings.{concluded, failed, refused}
use Rattle.fzn.proofs.run.conclude.Goals as goal

pub returns-in-Ok-clause-printed : goal.returns-in-Ok-clause-printed
returns-in-Ok-clause-printed g c = λ before printed.
    concluded c.flush.result (book_of c.args.printer.now).model c.args.options.now before (g.S.Sink.taken c.print_rest.new.sink) (g.S.Sink.taken c.flush.new.sink) _ _ _
    c.requires.asked (c.in-Ok.ensures.whole before printed) c.flush.ensures.taken c.flush.ensures.cases

pub returns-in-Err-Memory-clause-printed : goal.returns-in-Err-Memory-clause-printed
returns-in-Err-Memory-clause-printed g c = λ before printed.
    refused c.flush-in-Err-Memory.result (book_of c.args.printer.now).model c.args.options.now before (g.S.Sink.taken c.print_rest.new.sink) (g.S.Sink.taken c.flush-in-Err-Memory.new.sink) _ _ _
    c.requires.asked (c.in-Err-Memory.ensures.front before printed) c.flush-in-Err-Memory.ensures.taken c.flush-in-Err-Memory.ensures.cases

pub returns-in-Err-Fault-clause-printed : goal.returns-in-Err-Fault-clause-printed
returns-in-Err-Fault-clause-printed g c = λ before printed.
    failed (book_of c.args.printer.now).model c.args.options.now before (g.S.Sink.taken c.print_rest.new.sink) c.requires.asked (c.in-Err-Fault.ensures.front before printed)
