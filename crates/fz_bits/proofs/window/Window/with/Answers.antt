use Rattle.std.proofs.Common.{arith}
use Rattle.std.proofs.lemmas.Int.{ints}
use Rattle.fz_bits.proofs.Windows.{one_more}
use Rattle.fz_bits.proofs.window.Window.with.Goals as goal

pub returns-clause-numbers : goal.returns-clause-numbers
returns-clause-numbers c = λ x.
    let low = c.requires.low in
    let high = c.requires.high in
    one_more c.args.self.base x c.args.number c.args.self.bits c.with_bit-bits.result c.abs_diff-place.result (omega (arith, ints)) (omega (arith, ints)) c.with_bit-bits.ensures
