use Rattle.std.proofs.Common.{◌≡◌, ◌∙◌, ap, rules}
use Rattle.std.specs.Arc.{arc_value}
use Rattle.fz_spec.specs.declared.goal.Goal.{Goal}
use Rattle.fz_tree.specs.Book.{BookLaw}
use Rattle.fz_runs.specs.Modes.{mode_for}
use Rattle.fz_printer.specs.Printed.{book_of}
use Rattle.fz_search.specs.Searched.{enough_for, shows_found}
use Rattle.fz_search.proofs.Searches.{printed_together}
use Rattle.fz_search.proofs.team.search_in_threads.Goals as goal

pub returns-clause-printed : goal.returns-clause-printed
returns-clause-printed g c =
    let m = arc_value c.args.model.now in
    let o = c.args.options.now in
    let aim : c.goal.result.now ≡ m.goal = search rules in
    let asked : c.goal-2.result.now ≡ m.goal = search rules in
    let shown : c.goal-3.result.now ≡ m.goal = search rules in
    let law : BookLaw (book_of c.search_all.new.printer) = search rules in
    printed_together m o c.mode_for-mode.result c.new-printer.result c.search_all.new.printer c.shows_found.result c.enough_for-wanted.result (g.K.Sink.taken c.args.sink.now) (g.K.Sink.taken c.search_all.new.sink) (g.K.Sink.faults c.args.sink.now) (g.K.Sink.faults c.search_all.new.sink)
    c.search_all.ensures.gathers (c.new-printer.ensures.book ∙ c.in_ok-book.ensures.opened)
    (c.mode_for-mode.ensures.is ∙ ap (λ (goal : Goal). mode_for goal o) aim) law c.new-printer.ensures.as_found (c.shows_found.ensures ∙ ap (λ (goal : Goal). shows_found goal o) shown) c.new-printer.ensures.wanted
    (c.enough_for-wanted.ensures ∙ ap (λ (goal : Goal). enough_for goal o) asked) c.new-printer.ensures.printed c.new-printer.ensures.stopped c.search_all.ensures.ended

pub returns-clause-cause : goal.returns-clause-cause
returns-clause-cause g c = c.search_all.ensures.gathers.cause
