use Rattle.fz_bits.proofs.Members.{meets_tells}
use Rattle.fz_column.proofs.row_set.meets.Goals as goal

pub returns : goal.returns
returns c =
    let words = c.args.rows.now in
    meets_tells words c.args.chunk c.common.result c.common.ensures c.common.type_inv
