use Rattle.std.proofs.Common.{◌≡◌, ◌∙◌, ap, rules, subst, sym}
use Rattle.std.specs.Arc.{arc_value}
use Rattle.fz_spec.specs.declared.goal.Goal.{Goal}
use Rattle.fz_tree.specs.Book.{Book, BookLaw}
use Rattle.fz_runs.specs.Modes.{mode_for}
use Rattle.fz_search.specs.Searched.{IsSearched, enough_for}
use Rattle.fz_search.proofs.Searches.{by_turns, searched_by_turns, unprinted}
use Rattle.fz_search.proofs.searching.search_by_turns.Goals as goal

pub returns-clause-printed : goal.returns-clause-printed
returns-clause-printed g c = λ taken.
    let m = arc_value c.args.model.now in
    let enough = enough_for m.goal c.args.options.now in
    let aim : c.goal-2.result.now ≡ m.goal = search rules in
    let own : c.goal.result.now ≡ m.goal = search rules in
    let mode = mode_for m.goal c.args.options.now in
    let same : c.into_book.result.book ≡ c.run.new.self.book = c.into_book.ensures.book in
    unprinted m c.args.options.now c.new.result taken
    (subst (λ (b : Book). IsSearched m mode enough b) (sym (c.new.ensures.book ∙ same))
    (searched_by_turns m c.args.options.now c.mode_for-mode.result mode enough c.enough_for-enough.result c.in_ok-machine.machine c.run.new.self c.in_ok-run.field-0 c.in_ok-machine.ensures (c.mode_for-mode.ensures.is ∙ ap (λ (goal : Goal). mode_for goal c.args.options.now) own)
    c.run.ensures.model c.run.ensures.mode (subst BookLaw same c.into_book.ensures.law)
    (c.enough_for-enough.ensures ∙ ap (λ (goal : Goal). enough_for goal c.args.options.now) aim) c.in_ok-run.ensures.enough c.in_ok-run.ensures.closed))
    c.new.ensures.as_found c.new.ensures.printed c.new.ensures.stopped

pub returns-clause-by : goal.returns-clause-by
returns-clause-by g c =
    let m = arc_value c.args.model.now in
    let aim : c.goal.result.now ≡ m.goal = search rules in
    let asked : c.goal-2.result.now ≡ m.goal = search rules in
    by_turns m c.args.options.now c.args.seed c.enough_for-enough.result c.mode_for-mode.result c.in_ok-machine.machine c.run.new.self c.new.result.book.book (c.enough_for-enough.ensures ∙ ap (λ (goal : Goal). enough_for goal c.args.options.now) asked) (c.mode_for-mode.ensures.is ∙ ap (λ (goal : Goal). mode_for goal c.args.options.now) aim)
    c.in_ok-machine.ensures c.in_ok-run.ensures.gone (c.new.ensures.book ∙ c.into_book.ensures.book)
