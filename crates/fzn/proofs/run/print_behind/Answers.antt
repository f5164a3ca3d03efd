use Rattle.std.proofs.Common.{◌≡◌, List, Option, ℕ, refl, sym, subst}
use Rattle.std.specs.Prelude.{ℤ, option_map, option_copied}
use Rattle.std.proofs.lemmas.Result.{on_err_weaker, on_ok_weaker}
use Rattle.fz_model.specs.Kept.{IsModel}
use Rattle.fz_spec.specs.Instance.{Instance}
use Rattle.fz_tree.specs.Book.{Book, BookLaw}
use Rattle.fz_printer.specs.Printed.{book_of}
use Rattle.fz_search.specs.Searched.{first_shown, IsShown}
use Rattle.fz_runs.specs.Runs.{certified}
use Rattle.fzn.specs.Begun.{IsCertifiable}
use Rattle.fz_printer.proofs.Fronts.{whenever}
use Rattle.fz_maker.specs.Taken.{TakesOne, TakesFrontOfOne}
use Rattle.fz_runs.specs.Runs.{IsCertificate}
use Rattle.fzn.proofs.Endings.{all_shown, cut_short, cut_within, front_behind, head_found, shown_certifiable, whole_behind, whole_run}
use Rattle.fzn.proofs.run.print_behind.Goals as goal

pub tally_of-tally-requires-clause-shows : goal.tally_of-tally-requires-clause-shows
tally_of-tally-requires-clause-shows g c = rw c.book-book.ensures.book (all_shown c.args.options.now c.args.printer.now c.requires.ended c.requires.found)

pub certify-requires-clause-certifiable : goal.certify-requires-clause-certifiable
certify-requires-clause-certifiable g c =
    let o = c.args.options.now in
    let b = book_of c.args.printer.now in
    let shown = rw c.book-book.ensures.book at c.tally_of-tally.ensures.shown in
    let head = head_found o c.args.printer.now c.book-book.result.now.book c.model-model.result.now c.goal.result.now c.tally_of-tally.result.count (option_copied c.incumbent.result) (option_map (λ h. option_copied h) c.to_certify-head.result)
    c.book-book.ensures.book c.model-model.ensures.model c.goal.ensures.goal c.model-model.ensures.law c.tally_of-tally.ensures.count c.incumbent.ensures.incumbent c.to_certify-head.ensures in
    rw (c.model-model.ensures.model, c.book-book.ensures.book, head) (shown_certifiable b.model o (first_shown o b) c.tally_of-tally.result.complete shown)

pub returns-in_err-print_end-clause-front : goal.returns-in_err-print_end-clause-front
returns-in_err-print_end-clause-front g c = λ before printed.
    let o = c.args.options.now in
    let p = c.args.printer.now in
    let b = book_of p in
    let l = first_shown o b in
    let shown = rw c.book-book.ensures.book at c.tally_of-tally.ensures.shown in
    let count = rw c.book-book.ensures.book at c.tally_of-tally.ensures.count in
    let is = rw (c.model-model.ensures.model, c.book-book.ensures.book) at c.goal.ensures.kept in
    whenever c.from_residual.result
    (cut_short b.model o l c.tally_of-tally.result.complete before (g.S.Sink.taken c.print_end.new.sink) is shown
    (front_behind o p l c.tally_of-tally.result.complete before (g.S.Sink.taken c.args.sink.now) (g.S.Sink.taken c.print_end.new.sink) c.requires.ended c.requires.found (λ shows. refl) printed (c.in_err-print_end.ensures.front l count)))

pub returns-clause-whole : goal.returns-clause-whole
returns-clause-whole g c = λ before printed.
    let o = c.args.options.now in
    let p = c.args.printer.now in
    let b = book_of p in
    let l = first_shown o b in
    let shown = rw c.book-book.ensures.book at c.tally_of-tally.ensures.shown in
    let count = rw c.book-book.ensures.book at c.tally_of-tally.ensures.count in
    let head = head_found o p c.book-book.result.now.book c.model-model.result.now c.goal.result.now c.tally_of-tally.result.count (option_copied c.incumbent.result) (option_map (λ h. option_copied h) c.to_certify-head.result)
    c.book-book.ensures.book c.model-model.ensures.model c.goal.ensures.goal c.model-model.ensures.law c.tally_of-tally.ensures.count c.incumbent.ensures.incumbent c.to_certify-head.ensures in
    let whole = whole_behind o p l c.tally_of-tally.result.complete before (g.S.Sink.taken c.args.sink.now) (g.S.Sink.taken c.print_end.new.sink) c.requires.ended c.requires.found (λ shows. refl) printed (c.in_ok-print_end.ensures.taken l count) in
    on_ok_weaker c.certify.result
    (λ one. whole_run b.model o l c.tally_of-tally.result.complete (option_map (λ h. option_copied h) c.to_certify-head.result) before (g.S.Sink.taken c.print_end.new.sink) (g.S.Sink.taken c.certify.new.sink) head shown whole
    (rw (c.model-model.ensures.model, c.book-book.ensures.book) at one))
    c.certify.ensures.taken

pub returns-clause-front : goal.returns-clause-front
returns-clause-front g c = λ before printed.
    let o = c.args.options.now in
    let p = c.args.printer.now in
    let b = book_of p in
    let l = first_shown o b in
    let shown = rw c.book-book.ensures.book at c.tally_of-tally.ensures.shown in
    let count = rw c.book-book.ensures.book at c.tally_of-tally.ensures.count in
    let head = head_found o p c.book-book.result.now.book c.model-model.result.now c.goal.result.now c.tally_of-tally.result.count (option_copied c.incumbent.result) (option_map (λ h. option_copied h) c.to_certify-head.result)
    c.book-book.ensures.book c.model-model.ensures.model c.goal.ensures.goal c.model-model.ensures.law c.tally_of-tally.ensures.count c.incumbent.ensures.incumbent c.to_certify-head.ensures in
    let whole = whole_behind o p l c.tally_of-tally.result.complete before (g.S.Sink.taken c.args.sink.now) (g.S.Sink.taken c.print_end.new.sink) c.requires.ended c.requires.found (λ shows. refl) printed (c.in_ok-print_end.ensures.taken l count) in
    on_err_weaker c.certify.result
    (λ one. cut_within b.model o l c.tally_of-tally.result.complete (option_map (λ h. option_copied h) c.to_certify-head.result) before (g.S.Sink.taken c.print_end.new.sink) (g.S.Sink.taken c.certify.new.sink) head shown whole
    (rw (c.model-model.ensures.model, c.book-book.ensures.book) at one))
    c.certify.ensures.front
