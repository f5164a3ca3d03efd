use Rattle.std.proofs.Common.{List, sym, subst}
use Rattle.std.specs.Prelude.{ℤ}
use Rattle.fz_runs.specs.Runs.{AreBest}
use Rattle.fz_search.proofs.Searches.{best_listed, best_alone}
use Rattle.fz_search.proofs.searching.best_of.Goals as goal

pub returns-then-all-clause-best : goal.returns-then-all-clause-best
returns-then-all-clause-best c = best_listed c.args.book.now.book c.args.all c.recorded-found.result.now c.requires.searched c.if-all.true (c.recorded-found.ensures.whole c.requires.whole)

pub returns-clause-best : goal.returns-clause-best
returns-clause-best c =
    subst (λ (l : List (List ℤ)). AreBest c.args.all c.args.book.now.book.model l) (sym c.last_of.ensures)
    (best_alone c.args.book.now.book c.args.all c.recorded-found.result.now c.requires.searched (c.recorded-found.ensures.whole c.requires.whole))
