use Rattle.std.proofs.Common.{arith}
use Rattle.std.proofs.lemmas.Int.{ints}
use Rattle.fz_bits.proofs.Windows.{bit_in, one_less}
use Rattle.fz_bits.proofs.window.Window.without.Goals as goal

pub returns-clause-numbers : goal.returns-clause-numbers
returns-clause-numbers c = λ x.
    let low = c.requires.low in
    let high = c.requires.high in
    one_less c.args.self.base x c.args.number c.args.self.bits c.without_bit-bits.result c.abs_diff-place.result (omega (arith, ints)) (omega (arith, ints)) c.without_bit-bits.ensures.ones

pub returns-clause-falls : goal.returns-clause-falls
returns-clause-falls c = λ m.
    let low = c.requires.low in
    let high = c.requires.high in
    c.without_bit-bits.ensures.falls ((bit_in c.args.self.base c.args.number c.args.self.bits c.abs_diff-place.result (omega (arith, ints)) (omega (arith, ints))).1 m)
