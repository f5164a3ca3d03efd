use Rattle.std.proofs.Common.{◌≡◌, ◌∙◌, Some}
use Rattle.fz_printer.specs.Printed.{stopped_of}
use Rattle.fzn.proofs.Outcomes.{no_more}
use Rattle.fzn.proofs.Parting.{none_of_task, stopped_task}
use Rattle.fzn.proofs.Stops.{stopped_begun}
use Rattle.fzn.proofs.part.search_task.Goals as goal

pub returns-in_default-clause-front : goal.returns-in_default-clause-front
returns-in_default-clause-front g c =
    let before = g.S.Sink.taken c.args.sink.now in none_of_task c.args.model c.args.options.now before (g.S.Sink.taken c.searched.new.sink) c.requires.plain (c.in_default.ensures.0 ∙ no_more before)

pub returns-in-Some-clause-front : goal.returns-in-Some-clause-front
returns-in-Some-clause-front g c =
    let before = g.S.Sink.taken c.args.sink.now in
    let after = g.S.Sink.taken c.searched.new.sink in
    let told = c.stopped.ensures in
    let is = c.in-Some.is in
    let stop : stopped_of c.in-Ok.printer ≡ Some c.in-Some.stop = cc in
    stopped_task c.args.model c.args.options.now before after c.requires.plain (stopped_begun c.args.model c.args.options.now c.in-Ok.printer c.in-Some.stop before after c.in-Ok.ensures.0 stop)
