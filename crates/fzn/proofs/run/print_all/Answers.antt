use Rattle.std.proofs.Common.{◌≡◌, ◌∙◌, List, Option, ℕ, refl, sym, ap, subst}
use Rattle.std.specs.Prelude.{ℤ, option_map, option_copied}
use Rattle.std.proofs.lemmas.Result.{on_err_weaker, on_ok_weaker}
use Rattle.fz_io.specs.Outside.{with_more}
use Rattle.fz_printer.specs.Texts.{TakesFront, run_text}
use Rattle.fz_printer.specs.Printed.{book_of}
use Rattle.fz_search.proofs.Searches.{shown_declared}
use Rattle.fz_printer.proofs.Fronts.{whenever}
use Rattle.fzn.proofs.Endings.{cut_short, cut_within, head_listed, none_gone, shown_certifiable, untaken, whole_run}
use Rattle.fzn.proofs.run.print_all.Goals as goal

pub listing_of-listing-requires-clause-whole : goal.listing_of-listing-requires-clause-whole
listing_of-listing-requires-clause-whole g c =
    none_gone c.args.options.now c.args.printer.now c.book-book.result.now.gone c.requires.ended c.requires.unfound c.book-book.ensures.kept

pub print_run-requires-clause-declared : goal.print_run-requires-clause-declared
print_run-requires-clause-declared g c =
    rw c.model-model.ensures.model (shown_declared c.book-book.result.now.book.model.goal c.book-book.result.now.book.model c.args.options.now c.listing_of-listing.result.found.now c.listing_of-listing.result.complete c.listing_of-listing.ensures)

pub certify-requires-clause-certifiable : goal.certify-requires-clause-certifiable
certify-requires-clause-certifiable g c =
    let o = c.args.options.now in
    let b = book_of c.args.printer.now in
    let l = c.listing_of-listing.result.found.now in
    let shown = rw c.book-book.ensures.book at c.listing_of-listing.ensures in
    let head = head_listed o c.args.printer.now c.book-book.result.now.book c.model-model.result.now c.goal.result.now l (option_copied c.last.result) (option_map (λ h. option_copied h) c.to_certify-head.result)
    c.book-book.ensures.book c.model-model.ensures.model c.goal.ensures.goal c.last.ensures.value c.to_certify-head.ensures in
    rw (c.model-model.ensures.model, c.book-book.ensures.book, head) (shown_certifiable b.model o l c.listing_of-listing.result.complete shown)

pub returns-in_err-print_run-clause-front : goal.returns-in_err-print_run-clause-front
returns-in_err-print_run-clause-front g c = λ before printed.
    let o = c.args.options.now in
    let p = c.args.printer.now in
    let b = book_of p in
    let l = c.listing_of-listing.result.found.now in
    let complete = c.listing_of-listing.result.complete in
    let shown = rw c.book-book.ensures.book at c.listing_of-listing.ensures in
    let is = rw (c.model-model.ensures.model, c.book-book.ensures.book) at c.goal.ensures.kept in
    let front = rw (c.model-model.ensures.model, c.book-book.ensures.book) at c.in_err-print_run.ensures.front in
    whenever c.from_residual.result
    (cut_short b.model o l complete before (g.S.Sink.taken c.print_run.new.sink) is shown
    (subst (λ (t : Option (List ℕ)). TakesFront (run_text o b.model l complete) t (g.S.Sink.taken c.print_run.new.sink)) (untaken o p before (g.S.Sink.taken c.args.sink.now) c.requires.ended c.requires.unfound printed) front))

pub returns-clause-whole : goal.returns-clause-whole
returns-clause-whole g c = λ before printed.
    let o = c.args.options.now in
    let p = c.args.printer.now in
    let b = book_of p in
    let l = c.listing_of-listing.result.found.now in
    let complete = c.listing_of-listing.result.complete in
    let shown = rw c.book-book.ensures.book at c.listing_of-listing.ensures in
    let head = head_listed o c.args.printer.now c.book-book.result.now.book c.model-model.result.now c.goal.result.now l (option_copied c.last.result) (option_map (λ h. option_copied h) c.to_certify-head.result)
    c.book-book.ensures.book c.model-model.ensures.model c.goal.ensures.goal c.last.ensures.value c.to_certify-head.ensures in
    let taken = rw (c.model-model.ensures.model, c.book-book.ensures.book) at c.in_ok-print_run.ensures.taken in
    let whole = taken ∙ ap (λ (t : Option (List ℕ)). with_more t (run_text o b.model l complete)) (untaken o p before (g.S.Sink.taken c.args.sink.now) c.requires.ended c.requires.unfound printed) in
    on_ok_weaker c.certify.result
    (λ one. whole_run b.model o l complete (option_map (λ h. option_copied h) c.to_certify-head.result) before (g.S.Sink.taken c.print_run.new.sink) (g.S.Sink.taken c.certify.new.sink) head shown whole
    (rw (c.model-model.ensures.model, c.book-book.ensures.book) at one))
    c.certify.ensures.taken

pub returns-clause-front : goal.returns-clause-front
returns-clause-front g c = λ before printed.
    let o = c.args.options.now in
    let p = c.args.printer.now in
    let b = book_of p in
    let l = c.listing_of-listing.result.found.now in
    let complete = c.listing_of-listing.result.complete in
    let shown = rw c.book-book.ensures.book at c.listing_of-listing.ensures in
    let head = head_listed o c.args.printer.now c.book-book.result.now.book c.model-model.result.now c.goal.result.now l (option_copied c.last.result) (option_map (λ h. option_copied h) c.to_certify-head.result)
    c.book-book.ensures.book c.model-model.ensures.model c.goal.ensures.goal c.last.ensures.value c.to_certify-head.ensures in
    let taken = rw (c.model-model.ensures.model, c.book-book.ensures.book) at c.in_ok-print_run.ensures.taken in
    let whole = taken ∙ ap (λ (t : Option (List ℕ)). with_more t (run_text o b.model l complete)) (untaken o p before (g.S.Sink.taken c.args.sink.now) c.requires.ended c.requires.unfound printed) in
    on_err_weaker c.certify.result
    (λ one. cut_within b.model o l complete (option_map (λ h. option_copied h) c.to_certify-head.result) before (g.S.Sink.taken c.print_run.new.sink) (g.S.Sink.taken c.certify.new.sink) head shown whole
    (rw (c.model-model.ensures.model, c.book-book.ensures.book) at one))
    c.certify.ensures.front
