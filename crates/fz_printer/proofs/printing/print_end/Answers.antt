use Rattle.std.proofs.lemmas.Result.{on_err_weaker}
use Rattle.fz_printer.proofs.Counts.{counted_by_count, ending_by_count}
use Rattle.fz_printer.proofs.Fronts.{front_more, front_after, whenever}
use Rattle.fz_printer.proofs.printing.print_end.Goals as goal

pub returns-in_err-put_ending-clause-front : goal.returns-in_err-put_ending-clause-front
returns-in_err-put_ending-clause-front g c = λ listed count.
    whenever c.from_residual.result (front_more _ _ _ _ (rw (ending_by_count c.args.complete listed c.args.count count) at c.in_err-put_ending.ensures.front))

pub returns-clause-front : goal.returns-clause-front
returns-clause-front g c = λ listed count.
    on_err_weaker c.put_statistics.result
    (λ front. rw (c.stats.ensures, ending_by_count c.args.complete listed c.args.count count, counted_by_count c.args.options.now.stats listed c.args.count count)
    at (front_after _ _ (g.S.Sink.taken c.args.sink.now) _ (rw c.in_ok-put_ending.ensures.taken at front)))
    c.put_statistics.ensures.front
