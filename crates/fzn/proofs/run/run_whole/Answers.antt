use Rattle.std.proofs.Common.{◌≡◌, Some}
use Rattle.fz_printer.specs.Printed.{stopped_of}
use Rattle.fzn.proofs.Stops.{stopped_fault, stopped_flushed}
use Rattle.fzn.proofs.run.run_whole.Goals as goal

pub returns-in-Some-Memory-clause-printed : goal.returns-in-Some-Memory-clause-printed
returns-in-Some-Memory-clause-printed g c =
    let told = c.stopped.ensures in
    let is = c.in-Some-Memory.is in
    let stop : stopped_of c.in-Ok.printer ≡ Some c.in-Some-Memory.field-0 = cc in
    stopped_flushed c.flush.result c.args.model c.args.options.now c.in-Ok.printer c.in-Some-Memory.field-0 (g.S.Sink.taken c.args.sink.now) (g.S.Sink.taken c.searched.new.sink) (g.S.Sink.taken c.flush.new.sink) _ _ _
    c.requires.asked c.goal.ensures.kept c.in-Ok.ensures.0 stop c.flush.ensures.taken c.flush.ensures.cases

pub returns-clause-printed : goal.returns-clause-printed
returns-clause-printed g c =
    let told = c.stopped.ensures in
    let is = c.in-Some-Fault.is in
    let stop : stopped_of c.in-Ok.printer ≡ Some c.in-Some-Fault.field-0 = cc in
    stopped_fault c.args.model c.args.options.now c.in-Ok.printer c.in-Some-Fault.field-0 (g.S.Sink.taken c.args.sink.now) (g.S.Sink.taken c.searched.new.sink) c.requires.asked c.goal.ensures.kept c.in-Ok.ensures.0 stop
