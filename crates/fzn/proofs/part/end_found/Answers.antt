use Rattle.std.specs.Prelude.{option_copied}
use Rattle.std.proofs.lemmas.Result.{on_err_weaker, on_ok_weaker}
use Rattle.fz_printer.specs.Printed.{book_of}
use Rattle.fz_search.specs.Searched.{first_shown}
use Rattle.fzn.specs.Steps.{part_end}
use Rattle.fzn.proofs.Parting.{end_found, found_printed, front_task, whole_task}
use Rattle.fzn.proofs.part.end_found.Goals as goal

pub returns-clause-whole : goal.returns-clause-whole
returns-clause-whole g c = λ before printed.
    let o = c.args.options.now in
    let p = c.args.printer.now in
    let complete = c.tally_of-tally.result.complete in
    let last = option_copied c.incumbent.result in
    let shown = rw c.book-book.ensures.book at c.tally_of-tally.ensures.shown in
    let end = end_found o p c.book-book.result.now.book c.model-model.result.now c.goal.result.now c.tally_of-tally.result.count last complete
    c.book-book.ensures.book c.model-model.ensures.model c.goal.ensures.goal c.model-model.ensures.law c.tally_of-tally.ensures.count c.incumbent.ensures.incumbent in
    on_ok_weaker c.put_end.result
    (whole_task (book_of p).model o (first_shown o (book_of p)) complete (part_end c.goal.result.now c.tally_of-tally.result.count last complete) before (g.S.Sink.taken c.args.sink.now) (g.S.Sink.taken c.put_end.new.sink) c.requires.plain shown end
    (found_printed o p before (g.S.Sink.taken c.args.sink.now) c.requires.ended c.requires.found printed))
    c.put_end.ensures.taken

pub returns-clause-front : goal.returns-clause-front
returns-clause-front g c = λ before printed.
    let o = c.args.options.now in
    let p = c.args.printer.now in
    let complete = c.tally_of-tally.result.complete in
    let last = option_copied c.incumbent.result in
    let shown = rw c.book-book.ensures.book at c.tally_of-tally.ensures.shown in
    let end = end_found o p c.book-book.result.now.book c.model-model.result.now c.goal.result.now c.tally_of-tally.result.count last complete
    c.book-book.ensures.book c.model-model.ensures.model c.goal.ensures.goal c.model-model.ensures.law c.tally_of-tally.ensures.count c.incumbent.ensures.incumbent in
    on_err_weaker c.put_end.result
    (front_task (book_of p).model o (first_shown o (book_of p)) complete (part_end c.goal.result.now c.tally_of-tally.result.count last complete) before (g.S.Sink.taken c.args.sink.now) (g.S.Sink.taken c.put_end.new.sink) c.requires.plain shown end
    (found_printed o p before (g.S.Sink.taken c.args.sink.now) c.requires.ended c.requires.found printed))
    c.put_end.ensures.front
