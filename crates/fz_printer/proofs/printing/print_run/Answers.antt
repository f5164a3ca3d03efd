use Rattle.std.proofs.Common.{refl}
use Rattle.std.proofs.lemmas.Result.{on_err_weaker}
use Rattle.fz_printer.proofs.Counts.{counted_by_count}
use Rattle.fz_printer.proofs.Fronts.{front_more, front_after, whenever}
use Rattle.fz_printer.proofs.printing.print_run.Goals as goal

pub returns-in_err-print_shown-clause-front : goal.returns-in_err-print_shown-clause-front
returns-in_err-print_shown-clause-front g c = whenever c.from_residual.result (front_more _ _ _ _ (rw c.generate.ensures.generate at c.in_err-print_shown.ensures.front))

pub returns-clause-front : goal.returns-clause-front
returns-clause-front g c =
    on_err_weaker c.put_statistics.result
    (λ front. rw (c.generate.ensures.generate, c.stats.ensures, counted_by_count c.args.options.now.stats c.args.found.now _ refl) at (front_after _ _ (g.S.Sink.taken c.args.sink.now) _ (rw c.in_ok-print_shown.ensures.taken at front)))
    c.put_statistics.ensures.front
