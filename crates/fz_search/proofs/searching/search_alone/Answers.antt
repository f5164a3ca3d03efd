use Rattle.std.proofs.Common.{◌≡◌, ◌∙◌, ap, rules}
use Rattle.std.specs.Arc.{arc_value}
use Rattle.fz_spec.specs.declared.goal.Goal.{Goal}
use Rattle.fz_tree.specs.Book.{BookLaw}
use Rattle.fz_runs.specs.Modes.{mode_for}
use Rattle.fz_path.specs.Paths.{bare, idle_path}
use Rattle.fz_printer.specs.Printed.{book_of}
use Rattle.fz_search.specs.Searched.{enough_for, shows_found}
use Rattle.fz_search.proofs.Searches.{alone, printed_alone}
use Rattle.fz_search.proofs.searching.search_alone.Goals as goal

pub returns-clause-printed : goal.returns-clause-printed
returns-clause-printed g c =
    let m = arc_value c.args.model.now in
    let o = c.args.options.now in
    let aim : c.goal.result.now ≡ m.goal = search rules in
    let asked : c.goal-2.result.now ≡ m.goal = search rules in
    let shown : c.goal-3.result.now ≡ m.goal = search rules in
    let law : BookLaw (book_of c.stream.new.printer) = search rules in
    printed_alone m o c.mode_for-mode.result c.new-printer.result c.stream.new.printer (bare c.in_ok-path.path) (bare c.stream.new.path) c.shows_found.result c.enough_for-wanted.result (g.K.Sink.taken c.args.sink.now) (g.K.Sink.taken c.stream.new.sink) c.stream.ensures.streams
    (c.new-printer.ensures.book ∙ c.in_ok-book.ensures.opened)
    (c.mode_for-mode.ensures.is ∙ ap (λ (goal : Goal). mode_for goal o) aim) law c.new-printer.ensures.as_found (c.shows_found.ensures ∙ ap (λ (goal : Goal). shows_found goal o) shown) c.new-printer.ensures.wanted
    (c.enough_for-wanted.ensures ∙ ap (λ (goal : Goal). enough_for goal o) asked) c.new-printer.ensures.printed c.new-printer.ensures.stopped c.stream.ensures.ready c.stream.ensures.ended

pub returns-clause-by : goal.returns-clause-by
returns-clause-by g c = λ n.
    let m = arc_value c.args.model.now in
    let o = c.args.options.now in
    let aim : c.goal.result.now ≡ m.goal = search rules in
    let shown : c.goal-3.result.now ≡ m.goal = search rules in
    let same : (bare c.in_ok-path.path) ≡ idle_path m c.mode_for-mode.result c.commit_distance-distance.result c.adaptive_distance-adaptive.result = search rules in
    alone m o c.new-printer.result.as_found c.mode_for-mode.result c.commit_distance-distance.result c.adaptive_distance-adaptive.result (book_of c.new-printer.result) (book_of c.stream.new.printer) (bare c.in_ok-path.path) (bare c.stream.new.path)
    (c.new-printer.ensures.as_found ∙ c.shows_found.ensures ∙ ap (λ (goal : Goal). shows_found goal o) shown) (c.mode_for-mode.ensures.is ∙ ap (λ (goal : Goal). mode_for goal o) aim) (search rules) (search rules) (c.new-printer.ensures.book ∙ c.in_ok-book.ensures.opened) same (c.stream.ensures.streams.searched n)
