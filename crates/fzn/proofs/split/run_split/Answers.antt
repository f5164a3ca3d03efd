use Rattle.fzn.proofs.Asking.{split_printed}
use Rattle.fzn.proofs.split.run_split.Goals as goal

pub returns-clause-printed : goal.returns-clause-printed
returns-clause-printed g c =
    let taken = rw c.deref.ensures.value at c.print_parts-printed.ensures.taken in
    let front = rw c.deref.ensures.value at c.print_parts-printed.ensures.front in
    split_printed c.print_parts-printed.result c.finish.result c.args.model c.args.most c.in-Ok.parts.items c.args.options.now (g.S.Sink.taken c.args.sink.now) (g.S.Sink.taken c.print_parts-printed.new.sink) (g.S.Sink.taken c.finish.new.sink) _ _ _
    c.requires.asked c.in-Ok.ensures taken front c.finish.ensures.taken c.finish.ensures.cases
