use Rattle.std.proofs.Common.{◌≡◌, ◌∙◌, ap, rules}
use Rattle.fz_spec.specs.declared.goal.Goal.{Goal}
use Rattle.fz_search.specs.Searched.{enough_for}
use Rattle.fz_search.proofs.Searches.{tally_counted, tally_shown}
use Rattle.fz_search.proofs.searching.tally_of.Goals as goal

pub returns-clause-shown : goal.returns-clause-shown
returns-clause-shown c =
    let is : c.goal.result.now ≡ c.args.book.now.book.model.goal = search rules in
    tally_shown c.args.options.now c.args.book.now.book c.enough_for-wanted.result c.recorded_count.result c.tally_among.result.count c.tally_among.result.complete
    (c.enough_for-wanted.ensures ∙ ap (λ (g : Goal). enough_for g c.args.options.now) is) c.recorded_count.ensures.count c.tally_among.ensures c.requires.searched c.requires.shows

pub returns-clause-count : goal.returns-clause-count
returns-clause-count c =
    let is : c.goal.result.now ≡ c.args.book.now.book.model.goal = search rules in
    tally_counted c.args.options.now c.args.book.now.book c.enough_for-wanted.result c.recorded_count.result c.tally_among.result.count c.tally_among.result.complete
    (c.enough_for-wanted.ensures ∙ ap (λ (g : Goal). enough_for g c.args.options.now) is) c.recorded_count.ensures.count c.tally_among.ensures
