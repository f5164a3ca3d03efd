use Rattle.std.proofs.Common.{arith}
use Rattle.fz_spec.specs.Run.{block}
use Rattle.fz_printer.proofs.Fronts.{front_within, whenever}
use Rattle.fz_printer.proofs.printing.print_blocks.Goals as goal

pub returns-in_err-put_block-clause-front : goal.returns-in_err-put_block-clause-front
returns-in_err-put_block-clause-front g c =
    whenever c.from_residual.result
    (front_within (block c.args.model.now) c.args.found.now c.loop-assignment.assignment-index c.assignment-item.result (g.S.Sink.taken c.args.sink.now) _ _ (omega arith)
    c.assignment-item.is c.loop-assignment.invariant.taken c.in_err-put_block.ensures.front)
