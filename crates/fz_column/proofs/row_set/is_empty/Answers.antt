use Rattle.std.proofs.Common.{◌<◌, ◌^◌, refl, rules, get_or}
use Rattle.fz_bits.proofs.Members.{some_in}
use Rattle.fz_column.proofs.row_set.is_empty.Goals as goal

pub returns-then-word-ne0-clause-some : goal.returns-then-word-ne0-clause-some
returns-then-word-ne0-clause-some c = λ e.
    let k = c.loop-word.word-index in
    let word = get_or c.args.rows.now k 0 in
    let fits : word < 2 ^ 64 = search rules in
    some_in c.args.rows.now k word refl c.if-word-ne0.true fits
