use Rattle.std.proofs.Common.{◌≡◌, ◌∙◌, ap, rules}
use Rattle.std.specs.Arc.{arc_value}
use Rattle.fz_spec.specs.declared.goal.Goal.{Goal}
use Rattle.fz_tree.specs.Book.{Book, BookLaw}
use Rattle.fz_path.specs.Paths.{bare}
use Rattle.fz_printer.specs.Printed.{book_of}
use Rattle.fz_search.specs.Searched.{enough_for}
use Rattle.fz_search.proofs.OnAssets.{printed_after}
use Rattle.fz_search.proofs.assets.search_by_assets.Goals as goal

pub returns-clause-printed : goal.returns-clause-printed
returns-clause-printed g c =
    let m = arc_value c.args.model.now in
    let o = c.args.options.now in
    let asked : c.goal-2.result.now ≡ m.goal = search rules in
    let law : BookLaw (book_of c.stream.new.printer) = search rules in
    printed_after m o c.new-printer.result c.stream.new.printer (bare c.in_ok-path.path) (bare c.stream.new.path) c.enough_for.result (g.K.Sink.taken c.args.sink.now) (g.K.Sink.taken c.stream.new.sink) c.stream.ensures.streams
    (ap (λ (b : Book). b.model) c.new-printer.ensures.book ∙ c.in_ok-book.ensures.own.0) (ap (λ (b : Book). b.mode) c.new-printer.ensures.book ∙ c.in_ok-book.ensures.own.1) law c.new-printer.ensures.as_found c.new-printer.ensures.wanted
    (c.enough_for.ensures ∙ ap (λ (goal : Goal). enough_for goal o) asked) c.new-printer.ensures.printed c.new-printer.ensures.stopped c.stream.ensures.ready c.stream.ensures.ended

pub returns-clause-cause : goal.returns-clause-cause
returns-clause-cause g c = c.stream.ensures.cause
