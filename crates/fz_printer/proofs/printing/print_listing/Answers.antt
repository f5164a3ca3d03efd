use Rattle.std.proofs.Common.{refl}
use Rattle.std.proofs.lemmas.Result.{on_err_weaker}
use Rattle.fz_spec.specs.Run.{blocks}
use Rattle.fz_printer.specs.Texts.{ending}
use Rattle.fz_printer.proofs.Counts.{ending_by_count}
use Rattle.fz_printer.proofs.Fronts.{front_more, front_after, whenever}
use Rattle.fz_printer.proofs.printing.print_listing.Goals as goal

pub returns-in_err-print_blocks-clause-front : goal.returns-in_err-print_blocks-clause-front
returns-in_err-print_blocks-clause-front g c =
    whenever c.from_residual.result
    (front_more (blocks c.args.model.now c.args.found.now) (ending c.args.complete c.args.found.now) _ _ c.in_err-print_blocks.ensures.front)

pub returns-clause-front : goal.returns-clause-front
returns-clause-front g c =
    on_err_weaker c.put_ending.result
    (λ front. front_after (blocks c.args.model.now c.args.found.now) (ending c.args.complete c.args.found.now) (g.S.Sink.taken c.args.sink.now) _ (rw (c.in_ok-print_blocks.ensures.taken, ending_by_count c.args.complete c.args.found.now _ refl) at front))
    c.put_ending.ensures.front
