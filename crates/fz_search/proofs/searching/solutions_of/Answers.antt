use Rattle.std.proofs.Common.{◌≡◌, ◌≤◌, ◌∙◌, sym, length, Some, rules}
use Rattle.fz_runs.specs.Runs.{wanted}
use Rattle.fz_search.proofs.Searches.{some_listed}
use Rattle.fz_search.proofs.searching.solutions_of.Goals as goal

pub returns-in-Some : goal.returns-in-Some
returns-in-Some c =
    let asked : wanted c.args.options.now ≡ Some c.in-Some.count = sym c.wanted.ensures ∙ c.in-Some.is in
    let within : c.in-Some.count ≤ length c.recorded-found.result.now = search rules in
    some_listed c.args.options.now.distinct c.args.book.now.book (wanted c.args.options.now) c.in-Some.count c.recorded-found.result.now c.requires.searched.law c.requires.searched.own_mode asked (c.recorded-found.ensures.whole c.requires.whole) within
