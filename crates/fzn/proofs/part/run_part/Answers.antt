use Rattle.fzn.proofs.Asking.{part_printed}
use Rattle.fzn.proofs.part.run_part.Goals as goal

pub returns-in-Ok-Ok-clause-printed : goal.returns-in-Ok-Ok-clause-printed
returns-in-Ok-Ok-clause-printed g c =
    let is = rw (c.in-Ok-Ok.field-0-is, c.better.ensures.better) at c.in-Ok-Ok.ensures.task in
    part_printed c.print_task-printed.result c.finish.result c.args.model c.args.text.now c.in-Ok-Ok.task c.args.options.now (g.S.Sink.taken c.args.sink.now) (g.S.Sink.taken c.print_task-printed.new.sink) (g.S.Sink.taken c.finish.new.sink) _ _ _
    c.requires.asked is c.print_task-printed.ensures.whole c.print_task-printed.ensures.front c.finish.ensures.taken c.finish.ensures.cases
