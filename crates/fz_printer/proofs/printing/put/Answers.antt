use Rattle.fz_printer.proofs.Fronts.{front_of_piece}
use Rattle.fz_printer.proofs.printing.put.Goals as goal

pub returns-in-Err-clause-front : goal.returns-in-Err-clause-front
returns-in-Err-clause-front g c = front_of_piece c.args.piece.now c.in-Err.ensures.prefix.0 _ _ c.in-Err.ensures.prefix.1 c.in-Err.ensures.prefix.2
