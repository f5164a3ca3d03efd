use Rattle.std.proofs.Common.{◌≡◌, ◌∙◌, List, Option, ℕ, ap, length, subst}
use Rattle.std.specs.Prelude.{option_copied}
use Rattle.std.proofs.lemmas.Result.{on_err_weaker, on_ok_weaker}
use Rattle.fz_spec.specs.Run.{blocks}
use Rattle.fz_io.specs.Outside.{with_more}
use Rattle.fz_printer.specs.Printed.{book_of}
use Rattle.fz_printer.specs.Texts.{TakesFront}
use Rattle.fz_printer.proofs.Fronts.{whenever}
use Rattle.fzn.specs.Steps.{part_end}
use Rattle.fzn.proofs.Endings.{untaken}
use Rattle.fzn.proofs.Parting.{end_listed, front_task, whole_task, within_task}
use Rattle.fzn.proofs.part.end_all.Goals as goal

pub returns-in_err-print_blocks-clause-front : goal.returns-in_err-print_blocks-clause-front
returns-in_err-print_blocks-clause-front g c = λ before printed.
    let o = c.args.options.now in
    let p = c.args.printer.now in
    let m = (book_of p).model in
    let l = c.listing_of-listing.result.found.now in
    let shown = rw c.book-book.ensures.book at c.listing_of-listing.ensures in
    let front = rw (c.model-model.ensures.model, c.book-book.ensures.book) at c.in_err-print_blocks.ensures.front in
    whenever c.from_residual.result
    (within_task m o l c.listing_of-listing.result.complete before (g.S.Sink.taken c.print_blocks.new.sink) c.requires.plain shown
    (subst (λ (t : Option (List ℕ)). TakesFront (blocks m l) t (g.S.Sink.taken c.print_blocks.new.sink)) (untaken o p before (g.S.Sink.taken c.args.sink.now) c.requires.ended c.requires.unfound printed) front))

pub returns-clause-whole : goal.returns-clause-whole
returns-clause-whole g c = λ before printed.
    let o = c.args.options.now in
    let p = c.args.printer.now in
    let m = (book_of p).model in
    let l = c.listing_of-listing.result.found.now in
    let complete = c.listing_of-listing.result.complete in
    let last = option_copied c.last.result in
    let shown = rw c.book-book.ensures.book at c.listing_of-listing.ensures in
    let end = end_listed p c.book-book.result.now.book c.model-model.result.now c.goal.result.now l last complete
    c.book-book.ensures.book c.model-model.ensures.model c.goal.ensures.goal c.last.ensures.value in
    let blocked = rw (c.model-model.ensures.model, c.book-book.ensures.book) at c.in_ok-print_blocks.ensures.taken in
    on_ok_weaker c.put_end.result
    (whole_task m o l complete (part_end c.goal.result.now (length l) last complete) before (g.S.Sink.taken c.print_blocks.new.sink) (g.S.Sink.taken c.put_end.new.sink) c.requires.plain shown end
    (blocked ∙ ap (λ (t : Option (List ℕ)). with_more t (blocks m l)) (untaken o p before (g.S.Sink.taken c.args.sink.now) c.requires.ended c.requires.unfound printed)))
    c.put_end.ensures.taken

pub returns-clause-front : goal.returns-clause-front
returns-clause-front g c = λ before printed.
    let o = c.args.options.now in
    let p = c.args.printer.now in
    let m = (book_of p).model in
    let l = c.listing_of-listing.result.found.now in
    let complete = c.listing_of-listing.result.complete in
    let last = option_copied c.last.result in
    let shown = rw c.book-book.ensures.book at c.listing_of-listing.ensures in
    let end = end_listed p c.book-book.result.now.book c.model-model.result.now c.goal.result.now l last complete
    c.book-book.ensures.book c.model-model.ensures.model c.goal.ensures.goal c.last.ensures.value in
    let blocked = rw (c.model-model.ensures.model, c.book-book.ensures.book) at c.in_ok-print_blocks.ensures.taken in
    on_err_weaker c.put_end.result
    (front_task m o l complete (part_end c.goal.result.now (length l) last complete) before (g.S.Sink.taken c.print_blocks.new.sink) (g.S.Sink.taken c.put_end.new.sink) c.requires.plain shown end
    (blocked ∙ ap (λ (t : Option (List ℕ)). with_more t (blocks m l)) (untaken o p before (g.S.Sink.taken c.args.sink.now) c.requires.ended c.requires.unfound printed)))
    c.put_end.ensures.front
