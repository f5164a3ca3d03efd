use Rattle.std.proofs.Common.{arith}
use Rattle.fz_printer.proofs.Fronts.{front_within, whenever}
use Rattle.fzn.specs.Asked.{split_line}
use Rattle.fzn.proofs.split.print_parts.Goals as goal

pub returns-in_err-put_part-clause-front : goal.returns-in_err-put_part-clause-front
returns-in_err-put_part-clause-front g c =
    whenever c.from_residual.result
    (front_within split_line c.args.parts.now c.loop-part.part-index c.part-item.result (g.S.Sink.taken c.args.sink.now) _ _ (omega arith)
    c.part-item.is c.loop-part.invariant.taken c.in_err-put_part.ensures.front)
