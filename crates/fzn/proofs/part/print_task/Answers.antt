use Rattle.std.proofs.lemmas.Result.{on_err_weaker, on_ok_weaker}
use Rattle.fz_printer.proofs.Fronts.{whenever}
use Rattle.fzn.proofs.Parting.{front_part, whole_part, within_line}
use Rattle.fzn.proofs.part.print_task.Goals as goal

pub returns-in_err-put_line-clause-front : goal.returns-in_err-put_line-clause-front
returns-in_err-put_line-clause-front g c =
    let front = rw c.better.ensures.better at c.in_err-put_line.ensures.front in
    whenever c.from_residual.result (within_line c.args.task.part c.args.task.model c.args.options.now (g.S.Sink.taken c.args.sink.now) (g.S.Sink.taken c.put_line.new.sink) c.requires.plain front)

pub returns-clause-whole : goal.returns-clause-whole
returns-clause-whole g c =
    let line = rw c.better.ensures.better at c.in_ok-put_line.ensures.taken in
    on_ok_weaker c.print_found.result
    (whole_part c.args.task.part c.args.task.model c.args.options.now (g.S.Sink.taken c.args.sink.now) (g.S.Sink.taken c.put_line.new.sink) (g.S.Sink.taken c.print_found.new.sink) line)
    c.print_found.ensures.whole

pub returns-clause-front : goal.returns-clause-front
returns-clause-front g c =
    let line = rw c.better.ensures.better at c.in_ok-put_line.ensures.taken in
    on_err_weaker c.print_found.result
    (front_part c.args.task.part c.args.task.model c.args.options.now (g.S.Sink.taken c.args.sink.now) (g.S.Sink.taken c.put_line.new.sink) (g.S.Sink.taken c.print_found.new.sink) line)
    c.print_found.ensures.front
