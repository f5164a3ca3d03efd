use Rattle.fz_strength.specs.Operations.{equation}
use Rattle.fz_arith.proofs.Steps.{rested_line}
use Rattle.fz_arith.proofs.narrow.keep_line.Goals as goal

pub returns-then-rests_as_product-clause-answer : goal.returns-then-rests_as_product-clause-answer
returns-then-rests_as_product-clause-answer c = rw c.rested.ensures
    (rested_line c.are_all_fixed.result (equation c.args.operation c.args.operands.now c.args.value) c.args.store.now.doms c.args.store.now (c.requires.value, c.requires.operands)
    (c.rests_as_product.ensures c.if-rests_as_product.true) c.are_all_fixed.ensures)
